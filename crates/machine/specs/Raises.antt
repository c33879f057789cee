-- Raise words, which a run passes over.
use Rattle.std.specs.Prelude.{Bool, true, false, List, [], ◌∷◌}
use Rattle.image.specs.declared.instruction.Instruction.{Instruction}
use Rattle.image.specs.declared.instruction.Instruction.TheVariants.{SetNumber, SetTuple, SetBlock, Copy, Add, Subtract, Fetch, Store, Push, Pop, Peek, Poke, Strike, Branch, Raise, Jump, Lower, Halt}

abbrev pub is_raise : Instruction → Bool
is_raise (SetNumber to value) = false
is_raise (SetTuple to tuple) = false
is_raise (SetBlock to block) = false
is_raise (Copy to from) = false
is_raise (Add to left right) = false
is_raise (Subtract to left right) = false
is_raise (Fetch to pointer cell) = false
is_raise (Store pointer from cell) = false
is_raise (Push count) = false
is_raise (Pop count) = false
is_raise (Peek to slot) = false
is_raise (Poke from slot) = false
is_raise (Strike channel from) = false
is_raise (Branch test target) = false
is_raise (Raise label postdominator) = true
is_raise (Jump target) = false
is_raise (Lower block) = false
is_raise Halt = false

-- from the first word that is none
abbrev pub past : List Instruction → List Instruction
past [] = []
past (i ∷ is) = elim (is_raise i) [ true ↦ past is | false ↦ i ∷ is ]
