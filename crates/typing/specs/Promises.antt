-- A promise as the signature that it stands for.
use Rattle.std.specs.Prelude.{map}
use Rattle.rules.specs.Program.{Signature}
use Rattle.rules.specs.Says.{type_in}
use Rattle.typing.specs.declared.promise.Promise.{Promise}

abbrev pub promised : Promise → Signature
promised w =
    record {
      context = w.context;
      types = record { registers = map type_in w.registers.now; slots = map type_in w.slots.now };
    }
