-- What is said of a value where it is defined.
use Rattle.std.specs.Prelude.{ℕ, List, ◌++◌, codes}
use Rattle.clif.specs.Names.{value_name, type_name}
use Rattle.clif.specs.declared.entities.Value.{Value}
use Rattle.clif.specs.declared.types.«Type».{«Type» as Ty}

abbrev pub definition : Value → Ty → List ℕ
definition v t = value_name v ++ (codes ": " ++ type_name t)
