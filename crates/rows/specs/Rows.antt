-- A row as the list of its values.
use Rattle.std.specs.Prelude.{List, ℕ, drop}
use Rattle.rows.specs.declared.row.Row.{Row}

abbrev pub held : {T : Type 0} {N : ℕ} → Row T N → List T
held r = drop r.front r.places
