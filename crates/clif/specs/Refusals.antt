-- The refusals of the product: for each case its number and its place.
use Rattle.std.specs.Prelude.{ℕ}
use Rattle.clif.specs.declared.refusals.Refusal.{Refusal}
use Rattle.clif.specs.declared.refusals.Refusal.TheVariants.{Unreadable, OverLimit, UnlikeRow, NoSuchNumber, BadOrder, UseBeforeDefinition, RegisterLimit, InstDeclined, BranchDeclined, NoRoom, BadAnswer, CircularAlias, UnsupportedType, NoSuchEntity, RequestSunk, RequestTooLate, RequestCount, SinkNoEffect, SinkNoColour, SinkRequested, SinkOutOfTurn, PendingFull, UnsupportedTemporary}

-- the number in the table of refusals
abbrev pub refusal_number : Refusal → ℕ
refusal_number (Unreadable p) = 1
refusal_number (OverLimit p) = 2
refusal_number (UnlikeRow p) = 3
refusal_number (NoSuchNumber p) = 4
refusal_number (BadOrder p) = 5
refusal_number (UseBeforeDefinition p) = 6
refusal_number (RegisterLimit p) = 7
refusal_number (InstDeclined p) = 8
refusal_number (BranchDeclined p) = 9
refusal_number (NoRoom p) = 10
refusal_number (BadAnswer p) = 11
refusal_number (CircularAlias p) = 12
refusal_number (UnsupportedType p) = 13
refusal_number (NoSuchEntity p) = 21
refusal_number (RequestSunk p) = 22
refusal_number (RequestTooLate p) = 23
refusal_number (RequestCount p) = 24
refusal_number (SinkNoEffect p) = 25
refusal_number (SinkNoColour p) = 26
refusal_number (SinkRequested p) = 27
refusal_number (SinkOutOfTurn p) = 28
refusal_number (PendingFull p) = 29
refusal_number (UnsupportedTemporary p) = 30

-- where the fault is: a byte, an instruction, an entry, a value or a number, as the table says
abbrev pub refusal_place : Refusal → ℕ
refusal_place (Unreadable p) = p
refusal_place (OverLimit p) = p
refusal_place (UnlikeRow p) = p
refusal_place (NoSuchNumber p) = p
refusal_place (BadOrder p) = p
refusal_place (UseBeforeDefinition p) = p
refusal_place (RegisterLimit p) = p
refusal_place (InstDeclined p) = p
refusal_place (BranchDeclined p) = p
refusal_place (NoRoom p) = p
refusal_place (BadAnswer p) = p
refusal_place (CircularAlias p) = p
refusal_place (UnsupportedType p) = p
refusal_place (NoSuchEntity p) = p
refusal_place (RequestSunk p) = p
refusal_place (RequestTooLate p) = p
refusal_place (RequestCount p) = p
refusal_place (SinkNoEffect p) = p
refusal_place (SinkNoColour p) = p
refusal_place (SinkRequested p) = p
refusal_place (SinkOutOfTurn p) = p
refusal_place (PendingFull p) = p
refusal_place (UnsupportedTemporary p) = p
