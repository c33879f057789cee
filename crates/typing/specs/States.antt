-- A state as the context and types that it stands for.
use Rattle.std.specs.Prelude.{List}
use Rattle.image.specs.declared.ty.Ty.{Ty}
use Rattle.rules.specs.Program.{Types, Signature}
use Rattle.typing.specs.declared.state.State.{State}
use Rattle.rows.specs.Rows.{held}

abbrev pub known : State → Signature
known s = record { context = s.context; types = record { registers = held s.registers; slots = held s.slots } }

-- with other types, or with other slots alone
abbrev pub with_types : Signature → Types → Signature
with_types s g = record { context = s.context; types = g }

abbrev pub with_slots : Signature → List Ty → Signature
with_slots s ts = with_types s (record { registers = s.types.registers; slots = ts })
