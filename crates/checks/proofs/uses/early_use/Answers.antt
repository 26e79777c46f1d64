use Rattle.std.proofs.Common.{◌≡◌, ◌+◌, ◌-◌, ◌<◌, ◌≤◌, length, is_some, sym, refl, ap, ◌∙◌, arith}
use Rattle.std.proofs.lemmas.List.{take_all}
use Rattle.std.proofs.lemmas.List.Folds.{list_all_more, list_all_at}
use Rattle.checks.specs.Checks.{value_before, tests_of_uses}
use Rattle.std.specs.List.{list_all}
use Rattle.checks.proofs.Runs.{tests_begin, tests_more, stopped, ended}
use Rattle.checks.proofs.UsesTold.{left_from, start_of, start_below, start_behind, start_zero, end_is_start, first_before_end, ordered_test, skip_block, end_below}
use Rattle.function.specs.Answers.{all_insts, first_of, end_of}
use Rattle.reader.specs.Reading.{value_at}
use Rattle.checks.proofs.uses.early_use.Goals as goal

pub loop-b-init : goal.loop-b-init
loop-b-init c = λ f h.
    let n = c.num_insts-insts.result in
    tests_begin (tests_of_uses f) n ∙ ap (left_from f n) (sym (start_zero f h.within.some_block))

pub loop-b-preserved-then-is_none : goal.loop-b-preserved-then-is_none
loop-b-preserved-then-is_none c = λ f h.
    let n = c.num_insts-insts.result in
    let b = c.loop-b.b in
    let l : b < length f.blocks = omega (arith, c.num_blocks-blocks.ensures.value f h, c.loop-b-test.true) in
    let k = end_of f b - first_of f b in
    let e : first_of f b + k ≡ end_of f b = omega (arith, first_before_end f b) in
    c.loop-b.invariant f h ∙ ap (left_from f n) (start_below f b l)
    ∙ skip_block f n b k l (sym (ap is_some (c.block_entry.ensures f h)) ∙ c.if-is_none.ensures) (omega arith) (omega (arith, end_below f b l, c.num_insts-insts.ensures.value f h))
    ∙ ap (left_from f n) (e ∙ end_is_start f b l)

pub loop-i-init : goal.loop-i-init
loop-i-init c = λ f h.
    let n = c.num_insts-insts.result in
    let b = c.loop-b.b in
    let l : b < length f.blocks = omega (arith, c.num_blocks-blocks.ensures.value f h, c.loop-b-test.true) in
    c.loop-b.invariant f h ∙ ap (left_from f n) (start_below f b l ∙ sym (c.block_first-i.ensures f h))

pub loop-v-init : goal.loop-v-init
loop-v-init c = λ f h. refl

pub loop-v-preserved : goal.loop-v-preserved
loop-v-preserved c = λ f h.
    let test = value_before f c.loop-b.b c.loop-i.i in
    let more = list_all_more test c.inst_uses-v-items.result.now c.loop-v.v-index (value_at 0) c.loop-v-test.true in
    let passes = sym (c.value_before.ensures f h) ∙ c.if-not-value_before.false in
    rw (more, c.loop-v.invariant f h, passes)

pub loop-i-preserved : goal.loop-i-preserved
loop-i-preserved c = λ f h.
    let b = c.loop-b.b in
    let i = c.loop-i.i in
    let vs = c.inst_uses-v-items.result.now in
    let test = value_before f b i in
    let l : b < length f.blocks = omega (arith, c.num_blocks-blocks.ensures.value f h, c.loop-b-test.true) in
    let g : i < end_of f b = omega (arith, c.loop-i-test.true, c.min-end.ensures, c.block_end.ensures f h) in
    let s : first_of f b ≤ i = omega (arith, c.loop-i.auto.i, c.block_first-i.ensures f h) in
    let all = sym (ap (list_all test) (take_all c.loop-v.v-index vs c.loop-v-test.false ∙ c.inst_uses-v-items.ensures f h)) ∙ c.loop-v.invariant f h in
    let passes = ordered_test f b i l s g (sym (ap is_some (c.block_entry.ensures f h)) ∙ c.if-is_none.ensures) ∙ all in
    c.loop-i.invariant f h ∙ tests_more (tests_of_uses f) c.num_insts-insts.result i (omega (arith, c.loop-i-test.true, c.min-end.ensures)) (rw passes)

pub loop-b-preserved : goal.loop-b-preserved
loop-b-preserved c = λ f h.
    let n = c.num_insts-insts.result in
    let b = c.loop-b.b in
    let i = c.loop-i.i in
    let l : b < length f.blocks = omega (arith, c.num_blocks-blocks.ensures.value f h, c.loop-b-test.true) in
    let m : c.min-end.result ≡ end_of f b = omega (arith, c.min-end.ensures, c.block_end.ensures f h, c.num_insts-insts.ensures.value f h, end_below f b l) in
    let s : c.block_first-i.result ≤ c.min-end.result = omega (arith, c.block_first-i.ensures f h, first_before_end f b) in
    let e : i ≡ end_of f b = omega (arith, c.loop-i-test.false, c.loop-i.auto.i-end s) in
    c.loop-i.invariant f h ∙ ap (left_from f n) (e ∙ end_is_start f b l)

pub returns-then-not-value_before : goal.returns-then-not-value_before
returns-then-not-value_before c = λ f h.
    let n = c.num_insts-insts.result in
    let b = c.loop-b.b in
    let i = c.loop-i.i in
    let vs = c.inst_uses-v-items.result.now in
    let test = value_before f b i in
    let l : b < length f.blocks = omega (arith, c.num_blocks-blocks.ensures.value f h, c.loop-b-test.true) in
    let g : i < end_of f b = omega (arith, c.loop-i-test.true, c.min-end.ensures, c.block_end.ensures f h) in
    let s : first_of f b ≤ i = omega (arith, c.loop-i.auto.i, c.block_first-i.ensures f h) in
    let early = list_all_at test vs c.loop-v.v-index (value_at 0) c.loop-v-test.true (sym (c.value_before.ensures f h) ∙ c.if-not-value_before.true) in
    let fails = ordered_test f b i l s g (sym (ap is_some (c.block_entry.ensures f h)) ∙ c.if-is_none.ensures) ∙ sym (ap (list_all test) (c.inst_uses-v-items.ensures f h)) ∙ early in
    stopped (tests_of_uses f) n i (length (all_insts f)) (c.num_insts-insts.ensures.value f h) (c.loop-i.invariant f h) (6, i) (omega (arith, c.loop-i-test.true, c.min-end.ensures)) (rw fails)

pub returns-after-loop-b : goal.returns-after-loop-b
returns-after-loop-b c = λ f h.
    let n = c.num_insts-insts.result in
    let b = c.loop-b.b in
    let last = start_behind f b (omega (arith, c.num_blocks-blocks.ensures.value f h, c.loop-b-test.false)) in
    ended (tests_of_uses f) n (start_of f b) (length (all_insts f)) (c.num_insts-insts.ensures.value f h) (c.loop-b.invariant f h) (omega (arith, last, c.num_insts-insts.ensures.value f h))
