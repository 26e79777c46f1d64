use denote.Shadow.{shadow}
use denote.Text.{Utf8}
use Rattle.text.proofs.names.put_list.Given as goal

abbrev pub invariant-loop-item : goal.invariant-loop-item
invariant-loop-item g l = shadow (Utf8 l.separator)
