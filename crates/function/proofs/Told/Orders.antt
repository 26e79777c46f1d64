-- What the tables of values, of the order and of its first entries tell.
use Rattle.std.proofs.Common.{◌≡◌, ℕ, ◌+◌, ◌*◌, ◌/◌, ◌%◌, ◌<◌, ◌≤◌, cond, ◌&&◌, ltb, get_or, slice_get, None, sym, ap, ◌∙◌, ap₂, ⊎_elim, arith}
use Rattle.function.proofs.Told.Reading.{row_read, index_read, at_edge}
use Rattle.function.proofs.Told.Shown.{held, room}
use Rattle.function.specs.Answers.{Shows, type_of_value, def_of_value, entry_of_block, entry_of_edge}
use Rattle.function.specs.Holding.{block_entry, edge_entry, edge_place}
use Rattle.function.specs.Numbering.{value_rows}
use Rattle.function.specs.declared.function.Function.{Function}
use Rattle.reader.specs.Data.{Func}
use Rattle.std.proofs.lemmas.Bool.{cases_lt, lt-ltb, le-ltb, and_from, and_left, and_right, cond-false}
use Rattle.std.specs.Option.{option_map, option_and_then}

place_within : (b k : ℕ) → k < 2 → ltb (2 * b + k) 128 ≡ (ltb b 64 && ltb k 2)
place_within b k l = ⊎_elim
    (λ (h : b < 64). lt-ltb (2 * b + k) 128 (omega arith) ∙ sym (and_from _ _ (lt-ltb b 64 h) (lt-ltb k 2 l)))
    (λ (h : 64 ≤ b). le-ltb (2 * b + k) 128 (omega arith) ∙ sym (and_left _ _ (le-ltb b 64 h)))
    (cases_lt b 64)

module _ (g : Function) (f : Func) (h : Shows g f) where
  pub entry_told : (k : ℕ) → slice_get f.order k ≡ get_or (held g).order.rows k None
  entry_told k = sym (row_read 128 f.order (held g).order (ap (λ s. s.order) h.holds) h.within.few_entries k)

  module _ (v : ℕ) where
    row : slice_get (value_rows f) v ≡ get_or (held g).values.rows v None
    row = sym (row_read 2048 (value_rows f) (held g).values (ap (λ s. s.values) h.holds) (room g f h).values v)

    pub type_told : type_of_value f v ≡ option_map (λ r. r.ty) (get_or (held g).values.rows v None)
    type_told = ap (option_map (λ r. r.ty)) row

    pub def_told : def_of_value f v ≡ option_map (λ r. r.def) (get_or (held g).values.rows v None)
    def_told = ap (option_map (λ r. r.def)) row

  pub block_entry_told : (b : ℕ) → entry_of_block f b ≡ get_or (held g).block_entries.rows b None
  block_entry_told b = sym (ap (λ s. get_or s.block_entries.rows b None) h.holds ∙ index_read (block_entry f.order) 64 b None)

  edge_row : (b k : ℕ) → k < 2 → entry_of_edge f b k ≡ get_or (held g).edge_entries.rows (2 * b + k) None
  edge_row b k l =
      sym (ap (λ s. get_or s.edge_entries.rows (2 * b + k) None) h.holds
      ∙ index_read (λ i. edge_entry f.order (i / 2) (i % 2)) 128 (2 * b + k) None
      ∙ ap₂ (λ t o. cond t o None) (place_within b k l) (ap₂ (edge_entry f.order) (omega arith) (omega arith)))

  pub edge_entry_told : (b k : ℕ) → entry_of_edge f b k ≡ option_and_then (λ j. get_or (held g).edge_entries.rows j None) (edge_place b k)
  edge_entry_told b k = at_edge b k _ _ (edge_row b k) (λ l. cond-false _ _ None (and_right _ _ (le-ltb k 2 l)))
