-- What an answer, and the words beside it, say of a line.
use Rattle.std.specs.Prelude.{◌≡◌, ℕ, List, [], Ok, Err, Result}
use Rattle.edition.specs.declared.entry.Entry.{Entry}
use Rattle.edition.specs.declared.entry.Entry.TheVariants.{Nothing, Load, Job}
use Rattle.edition.specs.declared.entry.Job.{Job as Heading}
use Rattle.edition.specs.declared.errors.LineError.{LineError}
use Rattle.edition.specs.Lines.{Said, Refuses, reading}
use Rattle.edition.specs.Lines.Said.{nothing, load, job}

-- a job with these words
abbrev pub with_heading : Heading → List ℕ → Said
with_heading j ws = job j.name.now j.fuel j.strip j.sheet ws

abbrev pub EntryRead : Result Said LineError → Entry → List ℕ → Type 0
EntryRead r Nothing ws = (r ≡ Ok nothing) × (ws ≡ [])
EntryRead r Load ws = (r ≡ Ok load) × (ws ≡ [])
EntryRead r (Job j) ws = r ≡ Ok (with_heading j ws)

-- The answer is what the line says, unless there was no memory for the words. Beside an error there are no words.
abbrev pub Reads : List ℕ → Result Entry LineError → List ℕ → Type 0
Reads line (Ok e) ws = EntryRead (reading line) e ws
Reads line (Err e) ws = Refuses (reading line) e × (ws ≡ [])
