-- Blocks and instructions, stored one after another.
use Rattle.std.proofs.Common.{◌≡◌, ℕ, suc, ◌-◌, Bool, List, [], ◌∷◌, map, length, Some, None, sym, ap, ◌∙◌, arith}
use Rattle.function.proofs.Filled.Contents.{Contents, Fits, store_with, ◌⊕◌, then_nothing, in_turn, of_inst, of_insts, of_head, of_body, of_blocks}
use Rattle.function.proofs.Filled.Tables.{pushed_more, pushed_rows, rows_table}
use Rattle.function.proofs.Filled.Values.{length_defined, numbers_defined, places_are}
use Rattle.function.specs.Cells.{table, pushed_all}
use Rattle.function.specs.Filling.{numbers_now, row_now, store_block, store_inst, store_insts, store_blocks}
use Rattle.function.specs.declared.tables.Tables.{Tables}
use Rattle.function.specs.Numbering.{Numbers, uses_of, is_last, inst_number, defined, past_params, past_inst, past_insts, past_body, block_row, inst_row, dest_places}
use Rattle.function.specs.declared.rows.ValueDef.TheVariants.{Param, Result}
use Rattle.reader.specs.Data.{Instruction, Body}
use Rattle.reader.specs.Reading.{value_at, block_at}
use Rattle.std.proofs.lemmas.List.{append-nil, length-append, length-map, length_push}

-- a store with the contents a, as many as the numbers n say, and b blocks
pub record Kept (s : Tables) (a : Contents) (n : Numbers) (b : ℕ) : Type 0 where
  pub is : s ≡ store_with a []
  pub blocks : length a.blocks ≡ b
  pub insts : length a.insts ≡ n.insts
  pub values : length a.values ≡ n.values
  pub uses : length a.uses ≡ n.uses

module _ (s : Tables) (a : Contents) (n : Numbers) (b : ℕ) where
  -- the row and the contents of one instruction
  row_is : (last : Bool) (x : Instruction) → Kept s a n (suc b) → Fits (a ⊕ of_inst b last n x) → row_now last x (store_with a []) ≡ inst_row b last n x
  unfolding store_with
  row_is last x k h =
      let p : length (map Some a.blocks) - 1 ≡ b = omega (arith, length-map a.blocks Some) in
      let q : length (map Some a.values) ≡ n.values = length-map a.values Some ∙ k.values in
      let u : (pushed_all 4096 (uses_of x) (table 4096 (value_at 0) a.uses)).len - length a.uses ≡ length (uses_of x) =
      rw (pushed_more (value_at 0) 4096 (uses_of x) a.uses h.uses) (omega (arith, length-append a.uses (uses_of x))) in
      rw (p, q, u, k.uses)

  inst_is : (last : Bool) (x : Instruction) → Kept s a n (suc b) → Fits (a ⊕ of_inst b last n x)
      → store_inst last x (store_with a []) ≡ store_with (a ⊕ of_inst b last n x) []
  unfolding store_with
  inst_is last x k h =
      let vs = pushed_rows 2048 _ _ a.values (ap (λ j. defined (Result (inst_number j)) 0 x.results) (length-map a.insts Some ∙ k.insts)) h.values in λ i. record {
        blocks = rows_table 64 (sym (append-nil a.blocks) i);
        insts = pushed_rows 1024 _ _ a.insts (ap (λ r. r ∷ []) (row_is last x k h)) h.insts i;
        values = vs i;
        numbers = numbers_defined _ a.values _ vs h.values i;
        uses = pushed_more (value_at 0) 4096 (uses_of x) a.uses h.uses i;
        destinations = (ap (λ ds. pushed_all 128 ds (table 128 None a.destinations)) (places_are last n x a.uses k.uses h.uses)
            ∙ pushed_more None 128 (dest_places last n x) a.destinations h.destinations) i;
        order = (store_with a []).order;
        block_entries = (store_with a []).block_entries;
        edge_entries = (store_with a []).edge_entries;
      }

  inst_kept : (last : Bool) (x : Instruction) → Kept s a n (suc b) → Fits (a ⊕ of_inst b last n x)
      → Kept (store_inst last x s) (a ⊕ of_inst b last n x) (past_inst x n) (suc b)
  inst_kept last x k h = record {
    is = ap (store_inst last x) k.is ∙ inst_is last x k h;
    blocks = rw append-nil k.blocks;
    insts = simp (length-append, k.insts);
    values = simp (length-append, length_defined, k.values);
    uses = simp (length-append, k.uses);
  }

  -- the head of a block
  now_is : Kept s a n b → numbers_now (store_with a []) ≡ n
  unfolding store_with
  now_is k = λ i. record { insts = (length-map a.insts Some ∙ k.insts) i; values = (length-map a.values Some ∙ k.values) i; uses = k.uses i }

  head_is : (x : Body) → Kept s a n b → Fits (a ⊕ of_head b n x)
      → store_block x.params (length x.insts) (store_with a []) ≡ store_with (a ⊕ of_head b n x) []
  unfolding store_with
  head_is x k h =
      let vs = pushed_rows 2048 _ _ a.values (ap (λ j. defined (Param (block_at j)) 0 x.params) (length-map a.blocks Some ∙ k.blocks)) h.values in λ i. record {
        blocks = pushed_rows 64 _ _ a.blocks (ap (λ m. block_row m x.params (length x.insts) ∷ []) (now_is k)) h.blocks i;
        insts = rows_table 1024 (sym (append-nil a.insts) i);
        values = vs i;
        numbers = numbers_defined _ a.values _ vs h.values i;
        uses = table 4096 (value_at 0) (sym (append-nil a.uses) i);
        destinations = table 128 None (sym (append-nil a.destinations) i);
        order = (store_with a []).order;
        block_entries = (store_with a []).block_entries;
        edge_entries = (store_with a []).edge_entries;
      }

  head_kept : (x : Body) → Kept s a n b → Fits (a ⊕ of_head b n x)
      → Kept (store_block x.params (length x.insts) s) (a ⊕ of_head b n x) (past_params x n) (suc b)
  head_kept x k h = record {
    is = ap (store_block x.params (length x.insts)) k.is ∙ head_is x k h;
    blocks = length_push a.blocks _ ∙ omega arith;
    insts = rw append-nil k.insts;
    values = simp (length-append, length_defined, k.values);
    uses = rw append-nil k.uses;
  }

insts_kept : (xs : List Instruction) (s : Tables) (a : Contents) (n : Numbers) (b : ℕ) → Kept s a n (suc b) → Fits (a ⊕ of_insts b n xs)
    → Kept (store_insts xs s) (a ⊕ of_insts b n xs) (past_insts xs n) (suc b)
insts_kept [] s a n b k h = rw then_nothing k
insts_kept (x ∷ xs) s a n b k h =
    in_turn (λ c. Kept (store_insts (x ∷ xs) s) c (past_insts (x ∷ xs) n) (suc b)) a (of_inst b (is_last xs) n x) (of_insts b (past_inst x n) xs) h
    (λ first all. insts_kept xs _ _ _ b (inst_kept s a n b (is_last xs) x k first) all)

body_kept : (x : Body) (s : Tables) (a : Contents) (n : Numbers) (b : ℕ) → Kept s a n b → Fits (a ⊕ of_body b n x)
    → Kept (store_blocks (x ∷ []) s) (a ⊕ of_body b n x) (past_body x n) (suc b)
body_kept x s a n b k h =
    in_turn (λ c. Kept (store_blocks (x ∷ []) s) c (past_body x n) (suc b)) a (of_head b n x) (of_insts b (past_params x n) x.insts) h
    (λ first all. insts_kept x.insts _ _ _ b (head_kept s a n b x k first) all)

pub blocks_are : (xs : List Body) (s : Tables) (a : Contents) (n : Numbers) (b : ℕ) → Kept s a n b → Fits (a ⊕ of_blocks b n xs)
    → store_blocks xs s ≡ store_with (a ⊕ of_blocks b n xs) []
blocks_are [] s a n b k h = rw then_nothing k.is
blocks_are (x ∷ xs) s a n b k h =
    in_turn (λ c. store_blocks (x ∷ xs) s ≡ store_with c []) a (of_body b n x) (of_blocks (suc b) (past_body x n) xs) h
    (λ first all. blocks_are xs _ _ _ (suc b) (body_kept x s a n b k first) all)
