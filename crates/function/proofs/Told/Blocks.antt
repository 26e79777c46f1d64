-- What the tables tell of a block, and of a destination.
use Rattle.std.proofs.Common.{◌≡◌, ℕ, ◌+◌, ◌*◌, ◌<◌, min, length, get_or, take, drop, slice_get, Some, None, Option, sym, refl, ap, ◌∙◌, subst, ap₂, arith}
use Rattle.function.proofs.Told.Each.{Both, both_elim, each_at}
use Rattle.function.proofs.Told.Places.{BlockOf, DestOf, dest_at}
use Rattle.function.proofs.Told.Reading.{part_whole, place_read, row_read, at_edge}
use Rattle.function.proofs.Told.Shown.{held, room, uses_shown, numbers_shown, blocks_match}
use Rattle.function.specs.Answers.{Shows, list_in, option_in, number_in, params_of, first_of, end_of, ending_of, destination_of_block}
use Rattle.function.specs.Holding.{edge_place}
use Rattle.function.specs.Numbering.{none_before, block_rows, value_rows, all_uses, all_destinations, values_from}
use Rattle.function.specs.declared.function.Function.{Function}
use Rattle.function.specs.declared.rows.BlockData.{BlockData}
use Rattle.function.specs.declared.rows.DestData.{DestData}
use Rattle.reader.specs.Data.{Destination, Body, Func}
use Rattle.std.proofs.lemmas.Bool.{cond_below, cond_above}
use Rattle.std.specs.Option.{option_map, option_and_then}

module _ (g : Function) (f : Func) (h : Shows g f) where
  module _ (b : ℕ) where
    abbrev at : Option BlockData
    at = get_or (held g).blocks.rows b None

    row : slice_get (block_rows f) b ≡ at
    row = sym (row_read 64 (block_rows f) (held g).blocks (ap (λ s. s.blocks) h.holds) (room g f h).blocks b)

    abbrev Row : BlockData → Body → Type 0
    Row = BlockOf (length (value_rows f))

    -- what each row of the function has is that of the row at b
    told : {Z : Type 0} (P Q : Option BlockData → Z) → Q None ≡ P None → ((r : BlockData) (x : Body) → Row r x → Q (Some r) ≡ P (Some r)) → Q (slice_get (block_rows f) b) ≡ P at
    told P Q none some =
        ap Q row
        ∙ both_elim Row (λ p q. Q p ≡ P p) none some at (slice_get f.blocks b)
        (subst (λ p. Both Row p (slice_get f.blocks b)) row (each_at Row (block_rows f) f.blocks (blocks_match g f h) b))

    pub params_told : params_of f b ≡ list_in at (λ r. take r.params (drop r.first_param (held g).numbers.rows))
    params_told = told (λ p. list_in p (λ r. take r.params (drop r.first_param (held g).numbers.rows))) (λ p. list_in p (λ r. values_from r.first_param r.params)) refl
        (λ r x t. sym (numbers_shown g f h r.first_param r.params t.params))

    pub first_told : first_of f b ≡ number_in at (λ r. r.first_inst)
    first_told = ap (λ p. number_in p (λ r. r.first_inst)) row

    pub end_told : end_of f b ≡ number_in at (λ r. min (r.first_inst + r.insts) 18446744073709551615)
    end_told = told (λ p. number_in p (λ r. min (r.first_inst + r.insts) 18446744073709551615)) (λ p. number_in p (λ r. r.first_inst + r.insts)) refl
        (λ r x t. omega (arith, t.insts))

  -- a row of a destination as it is handed out
  abbrev pub handed : DestData → Destination
  handed r = record { target = r.target; args = take r.args (drop r.first_arg (held g).uses.rows) }

  -- the destination k of block b, and its row
  dest_row : (b k : ℕ) → k < 2 → option_in (ending_of f b) (λ x. slice_get x.destinations k) ≡ option_map handed (get_or (held g).destinations.rows (2 * b + k) None)
  dest_row b k l =
      let us = all_uses f in
      let ds = all_destinations f in
      let d = option_in (ending_of f b) (λ x. slice_get x.destinations k) in
      let read = place_read None 128 ds (held g).destinations (ap (λ s. s.destinations) h.holds) (room g f h).destinations (2 * b + k) in
      both_elim (DestOf us) (λ p c. c ≡ option_map handed p) refl
      (λ r x t. ap₂ (λ a xs. Some (record { target = a; args = xs })) (sym t.target) (sym (uses_shown g f h r.first_arg r.args x.args t.args)))
      _ d (subst (λ p. Both (DestOf us) p d) (sym read) (dest_at us k l b 0 none_before f.blocks h.within.each_block (part_whole us)))

  pub destination_told : (b k : ℕ) → destination_of_block f b k ≡ option_and_then (λ j. option_map handed (get_or (held g).destinations.rows j None)) (edge_place b k)
  destination_told b k = at_edge b k _ _ (λ l. sym (cond_below k 2 _ None l) ∙ dest_row b k l) (λ l. sym (cond_above k 2 _ None None l refl))
