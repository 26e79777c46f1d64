-- The instruction that ends a block, by its number.
use Rattle.std.proofs.Common.{◌≡◌, ℕ, zero, suc, ◌+◌, ◌-◌, ◌<◌, ◌≤◌, true, List, [], ◌∷◌, length, Some, refl, zero-add, arith, slice_get}
use Rattle.function.proofs.Places.Blocks.{size, before}
use Rattle.function.proofs.Places.Insts.{rows, rows_in, length_rows, length_rows_in, stands_at}
use Rattle.function.proofs.Places.Lists.{get_front, get_behind, get_within}
use Rattle.function.specs.Answers.{all_insts, block_of, last_of, flag_in}
use Rattle.function.specs.Numbering.{Numbers, none_before, past_inst, past_body, past_params, inst_rows}
use Rattle.reader.specs.Data.{Instruction, Body, Func}
use Rattle.reader.specs.Reading.{block_at}
use Rattle.reader.specs.Within.{Within, FitsBody}
use Rattle.std.specs.List.{AllByRecursion}

last_at_end : (b : ℕ) (n : Numbers) (xs : List Instruction) (j : ℕ) → suc j ≡ length xs → flag_in (slice_get (rows b n xs) j) (λ r. r.last) ≡ true
last_at_end b n [] j h = absurd (omega arith)
last_at_end b n (x ∷ []) zero h = refl
last_at_end b n (x ∷ []) (suc j) h = absurd (omega arith)
last_at_end b n (x ∷ y ∷ ys) zero h = absurd (omega arith)
last_at_end b n (x ∷ y ∷ ys) (suc j) h = last_at_end b (past_inst x n) (y ∷ ys) j (omega arith)

last_in : (b : ℕ) (n : Numbers) (xs : List Body) (k j : ℕ) → suc j ≡ size k xs → flag_in (slice_get (rows_in b n xs) (before k xs + j)) (λ r. r.last) ≡ true
last_in b n [] k j h = absurd (omega arith)
last_in b n (x ∷ xs) zero j h =
    let m = past_params x n in
    let l : j < length (rows b m x.insts) = omega (arith, length_rows b m x.insts) in
    rw (zero-add, get_front (rows b m x.insts) _ j l) (last_at_end b m x.insts j h)
last_in b n (x ∷ xs) (suc k) j h =
    let m = past_params x n in
    let i = before (suc k) (x ∷ xs) + j in
    let p = get_behind (rows b m x.insts) (rows_in (suc b) (past_body x n) xs) i (before k xs + j) (omega (arith, length_rows b m x.insts)) in
    rw p (last_in (suc b) (past_body x n) xs k j h)

some_size : (xs : List Body) → AllByRecursion FitsBody xs → (b : ℕ) → b < length xs → 1 ≤ size b xs
some_size [] w b h = absurd (omega arith)
some_size (x ∷ xs) w zero h = w.0.some_inst
some_size (x ∷ xs) w (suc b) h = some_size xs w.1 b (omega arith)

pub ending_is_last : (f : Func) → Within f → (b : ℕ) → b < length f.blocks → (i : ℕ) × (i < length (all_insts f)) × (last_of f i ≡ true) × (block_of f i ≡ Some (block_at b))
ending_is_last f w b h =
    let s = some_size f.blocks w.each_block b h in
    let j = size b f.blocks - 1 in
    let i = before b f.blocks + j in
    let e = (stands_at f b j (omega arith)).block in
    let l = get_within (λ r. r.block) (inst_rows f) i (block_at b) e in
    (i, omega (arith, length_rows_in 0 none_before f.blocks), last_in 0 none_before f.blocks b j (omega arith), e)
