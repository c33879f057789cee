-- A box in the code as the box that the definitions speak of: the words of its image, none where it is empty, and whether it is stopped.
use Rattle.std.specs.Prelude.{take}
use Rattle.machine.specs.Box.{Model}
use Rattle.press_box.specs.declared.store.ImageStore.{ImageStore}
use Rattle.press_box.specs.declared.imprint_box.ImprintBox.{ImprintBox}

abbrev pub stored : ImageStore → Model
stored s = record { image = take s.len s.words; stopped = s.stopped }

abbrev pub model : {K : Type 0} → ImprintBox K → Model
model b = stored b.store
