use Rattle.std.proofs.Common.{refl}
use Rattle.reader.proofs.Lengths.{words_ok, words_cut}
use Rattle.reader.proofs.fields.Fields.words.Goals as goal

pub returns-in-Some : goal.returns-in-Some
returns-in-Some c =
    let x = c.args.self.now in
    let s = c.in-Some.ensures.cases in
    let w = words_ok x.size x.totals c.from.result x.rest.now s.0 in
    record { tells = rw (← c.from.ensures, w, s.1, s.2); size = refl }

pub returns-in-None : goal.returns-in-None
returns-in-None c =
    let x = c.args.self.now in
    let w = words_cut x.size x.totals c.from.result x.rest.now c.in-None.ensures.cases in
    record { tells = rw (← c.from.ensures, w, c.saturating_sub.ensures); size = refl }
