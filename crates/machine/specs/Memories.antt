-- The registers and the stack that the code keeps, with the cells beside them, as a state of the machine.
use Rattle.std.specs.Prelude.{ℕ, List}
use Rattle.rows.specs.Rows.{held}
use Rattle.machine.specs.declared.memory.Memory.{Memory}
use Rattle.machine.specs.Machine.{State}

abbrev pub state_of : Memory → List ℕ → State
state_of m cells = record { registers = m.registers; stack = held m.stack; cells = cells }
