-- Sorts, contexts and types compared, as tests.
use Rattle.std.specs.Prelude.{ℕ, Bool, true, false, not, ◌&&◌, ◌||◌, List, [], ◌∷◌, length, ◌==◌, nat_lt}
use Rattle.labels.specs.Meaning.{Meaning}
use Rattle.image.specs.declared.ty.Sort.{Sort}
use Rattle.image.specs.declared.ty.Sort.TheVariants.{Integer, Pointer, Code}
use Rattle.image.specs.declared.ty.Ty.{Ty}
use Rattle.image.specs.declared.ty.Ty.TheVariants.{Nonsense, Typed}
use Rattle.image.specs.declared.head.Context.{Context}
use Rattle.image.specs.declared.head.Context.TheVariants.{Empty, Raised}
use Rattle.rules.specs.Program.{Types, Signature, Program, shape_at, signature_at}

-- ---- sorts

abbrev pub same_sort : Sort → Sort → Bool
same_sort Integer Integer = true
same_sort Integer (Pointer u) = false
same_sort Integer (Code u) = false
same_sort (Pointer s) Integer = false
same_sort (Pointer s) (Pointer u) = s == u
same_sort (Pointer s) (Code u) = false
same_sort (Code s) Integer = false
same_sort (Code s) (Pointer u) = false
same_sort (Code s) (Code u) = s == u

abbrev pub is_integer : Ty → Bool
is_integer Nonsense = false
is_integer (Typed Integer label) = true
is_integer (Typed (Pointer shape) label) = false
is_integer (Typed (Code signature) label) = false

abbrev pub is_pointer : Ty → Bool
is_pointer Nonsense = false
is_pointer (Typed Integer label) = false
is_pointer (Typed (Pointer shape) label) = true
is_pointer (Typed (Code signature) label) = false

abbrev pub is_code : Ty → Bool
is_code Nonsense = false
is_code (Typed Integer label) = false
is_code (Typed (Pointer shape) label) = false
is_code (Typed (Code signature) label) = true

-- a pointer to tuples that have a cell n
abbrev pub has_cell : Program → Ty → ℕ → Bool
has_cell p Nonsense n = false
has_cell p (Typed Integer label) n = false
has_cell p (Typed (Pointer shape) label) n = nat_lt n (length (shape_at p shape))
has_cell p (Typed (Code signature) label) n = false

-- neither is nonsense, and both have one sort and number
abbrev pub alike : Ty → Ty → Bool
alike Nonsense u = false
alike (Typed s l) Nonsense = false
alike (Typed s l) (Typed o k) = same_sort s o

-- the signature that a code type names
abbrev pub target : Program → Ty → Signature
target p Nonsense = signature_at p 0
target p (Typed Integer label) = signature_at p 0
target p (Typed (Pointer shape) label) = signature_at p 0
target p (Typed (Code signature) label) = signature_at p signature

-- ---- contexts

abbrev pub same_context : Context → Context → Bool
same_context Empty Empty = true
same_context Empty (Raised l n) = false
same_context (Raised l n) Empty = false
same_context (Raised l n) (Raised k o) = l == k && n == o

abbrev pub is_empty : Context → Bool
is_empty Empty = true
is_empty (Raised label postdominator) = false

-- raised with this postdominator
abbrev pub raised_to : ℕ → Context → Bool
raised_to n Empty = false
raised_to n (Raised label postdominator) = postdominator == n

-- ---- fit, of what is there and what is wanted: by sort and number, and by label where those agree

abbrev pub fit_sort : Ty → Ty → Bool
fit_sort have Nonsense = true
fit_sort have (Typed s k) = alike have (Typed s k)

abbrev pub fit_label : Meaning → Ty → Ty → Bool
fit_label m have Nonsense = true
fit_label m Nonsense (Typed s k) = true
fit_label m (Typed o l) (Typed s k) = not (same_sort o s) || m.below l k

-- one by one; past its end a list is nonsense
abbrev pub pairwise : (Ty → Ty → Bool) → List Ty → List Ty → Bool
pairwise f have [] = true
pairwise f [] (w ∷ want) = f Nonsense w && pairwise f [] want
pairwise f (h ∷ have) (w ∷ want) = f h w && pairwise f have want

abbrev pub same_depth : Types → Types → Bool
same_depth have want = length have.slots == length want.slots

abbrev pub fit_sorts : Types → Types → Bool
fit_sorts have want = pairwise fit_sort have.registers want.registers && pairwise fit_sort have.slots want.slots

-- slots only at equal depth
abbrev pub fit_labels : Meaning → Types → Types → Bool
fit_labels m have want = pairwise (fit_label m) have.registers want.registers && (not (same_depth have want) || pairwise (fit_label m) have.slots want.slots)
