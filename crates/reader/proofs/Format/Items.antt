-- The single things of a file: values, blocks, types, opcodes, flags and entries of the order.
use Rattle.std.proofs.Common.{◌≡◌, ℕ, zero, suc, ◌<◌, ◌≤◌, Bool, true, false, cond, eqb, ◌↔◌, List, [], ◌∷◌, ◌++◌, Some, None, sym, refl, ap, ◌∙◌, subst, arith, lit<}
use Rattle.clif.specs.Find.{numbered}
use Rattle.clif.specs.Rows.{opcode_number, opcode_of, all_opcodes}
use Rattle.clif.specs.Types.{type_number, type_of, all_types}
use Rattle.clif.specs.declared.entities.Block.{Block}
use Rattle.clif.specs.declared.entities.Entry.{Entry}
use Rattle.clif.specs.declared.entities.Entry.TheVariants.{Block as to_block, Edge as to_edge}
use Rattle.clif.specs.declared.opcodes.Opcode.{Opcode}
use Rattle.clif.specs.declared.opcodes.Opcode.TheVariants.{Iconst, Iadd, Imul, Umulhi, Icmp, UaddOverflow, Load, Store, Call, Jump, Brif, Return, Trap}
use Rattle.clif.specs.declared.types.«Type».{«Type» as Ty}
use Rattle.clif.specs.declared.types.«Type».TheVariants.{I8, I16, I32, I64, I128}
use Rattle.reader.specs.Within.{WordValue, FitsEntry}
use Rattle.reader.specs.Writing.{word, value_bytes, type_bytes, flag_bytes, entry_bytes}
use Rattle.reader.specs.Reading.{◌>>=◌, give, number, named, value_at, block_at, value, target, flag_of, entry_of, order_entry}
use Rattle.reader.proofs.Format.Costs.{free}
use Rattle.reader.proofs.Format.Codes.{Codes, bind, recode, keyed, mapped}
use Rattle.reader.proofs.Format.Fields.{number_codes, byte_codes, ranged_codes, named_codes}
use Rattle.std.proofs.lemmas.Bool.{eqb-true}

pub value_codes : Codes WordValue value_bytes (λ v. free) value
value_codes = mapped value_at (number_codes 2) (λ v. (λ h. (v.0, h, refl), λ h. subst WordValue (sym h.2) h.1)) (λ n. refl) (λ n k. refl)

pub target_codes : Codes (λ b. b.0 < 65536) (λ b. word b.0) (λ b. free) target
target_codes = mapped block_at (number_codes 2) (λ v. (λ h. (v.0, h, refl), λ h. subst (λ (b : Block). b.0 < 65536) (sym h.2) h.1)) (λ n. refl) (λ n k. refl)

-- a case found by its number has that number
numbered_is : {E : Type 0} (code : E → ℕ) (es : List E) (n : ℕ) (e : E) → numbered code es n ≡ Some e → n ≡ code e
numbered_is code [] n e h = let z : ◌≡◌ {A = ℕ} 0 1 = cc in absurd (omega arith)
numbered_is code (x ∷ es) n e h = go (eqb (code x) n) refl h (numbered_is code es n e)
  where
    go : (b : Bool) → eqb (code x) n ≡ b → cond b (Some x) (numbered code es n) ≡ Some e → (numbered code es n ≡ Some e → n ≡ code e) → n ≡ code e
    go true t s later = let same : x ≡ e = cc in sym (eqb-true (code x) n t) ∙ ap code same
    go false t s later = later s

pub type_codes : Codes (λ t. Unit {0}) type_bytes (λ t. free) (named type_of)
type_codes = named_codes type_of type_number (λ t. (found t).0) (λ t. (found t).1) (numbered_is type_number all_types)
  where
    found : (t : Ty) → (type_number t < 256) × (type_of (type_number t) ≡ Some t)
    found I8 = (lit< tt, refl)
    found I16 = (lit< tt, refl)
    found I32 = (lit< tt, refl)
    found I64 = (lit< tt, refl)
    found I128 = (lit< tt, refl)

pub opcode_codes : Codes (λ o. Unit {0}) (λ o. opcode_number o ∷ []) (λ o. free) (named opcode_of)
opcode_codes = named_codes opcode_of opcode_number (λ o. (found o).0) (λ o. (found o).1) (numbered_is opcode_number all_opcodes)
  where
    found : (o : Opcode) → (opcode_number o < 256) × (opcode_of (opcode_number o) ≡ Some o)
    found Iconst = (lit< tt, refl)
    found Iadd = (lit< tt, refl)
    found Imul = (lit< tt, refl)
    found Umulhi = (lit< tt, refl)
    found Icmp = (lit< tt, refl)
    found UaddOverflow = (lit< tt, refl)
    found Load = (lit< tt, refl)
    found Store = (lit< tt, refl)
    found Call = (lit< tt, refl)
    found Jump = (lit< tt, refl)
    found Brif = (lit< tt, refl)
    found Return = (lit< tt, refl)
    found Trap = (lit< tt, refl)

pub flag_codes : Codes (λ b. Unit {0}) flag_bytes (λ b. free) (named flag_of)
flag_codes = named_codes flag_of (λ b. cond b 1 0) small found only_found
  where
    small : (b : Bool) → cond b 1 0 < 256
    small true = lit< tt
    small false = lit< tt

    found : (b : Bool) → flag_of (cond b 1 0) ≡ Some b
    found true = refl
    found false = refl

    only_found : (n : ℕ) (b : Bool) → flag_of n ≡ Some b → n ≡ cond b 1 0
    only_found n b h = go (eqb n 0) (eqb n 1) refl refl h
      where
        go : (o i : Bool) → eqb n 0 ≡ o → eqb n 1 ≡ i → cond o (Some false) (cond i (Some true) None) ≡ Some b → n ≡ cond b 1 0
        go true i is_o is_i s = let same : b ≡ false = cc in rw same (eqb-true n 0 is_o)
        go false true is_o is_i s = let same : b ≡ true = cc in rw same (eqb-true n 1 is_i)
        go false false is_o is_i s = let z : ◌≡◌ {A = ℕ} 0 1 = cc in absurd (omega arith)

-- an entry of the order: its map byte, and what follows
abbrev entry_map : Entry → ℕ
entry_map (to_block b) = 1
entry_map (to_edge b k) = 2

abbrev entry_index : Entry → List ℕ
entry_index (to_block b) = []
entry_index (to_edge b k) = k ∷ []

abbrev entry_rest : Entry → List ℕ
entry_rest (to_block b) = word b.0
entry_rest (to_edge b k) = word b.0 ++ k ∷ []

entry_of_codes : (map : ℕ) → (1 ≤ map) × (map ≤ 2) → Codes (λ e. (Unit {0} × (entry_map e ≡ map)) × FitsEntry e) entry_rest (λ e. free) (entry_of map)
entry_of_codes zero range = absurd (omega arith)
entry_of_codes (suc zero) range = mapped to_block target_codes parts (λ b. refl) (λ b k. refl)
  where
    parts : (e : Entry) → ((Unit {0} × (entry_map e ≡ 1)) × FitsEntry e) ↔ ((b : Block) × (b.0 < 65536) × (e ≡ to_block b))
    parts (to_block b) = (λ h. (b, h.1, refl), λ (c, h, e). let same : b ≡ c = cc in ((tt, refl), subst (λ (x : Block). x.0 < 65536) (sym same) h))
    parts (to_edge b k) = (λ h. absurd (omega (arith, h.0.1)), λ (c, h, e). let z : ◌≡◌ {A = ℕ} 0 1 = cc in absurd (omega arith))
entry_of_codes (suc (suc zero)) range =
    bind (λ b e. (k : ℕ) × (k < 256) × (e ≡ to_edge b k)) entry_index (λ e. free) (λ s b. number 1 >>= λ k. give (to_edge b k)) target_codes
    (λ s b h. mapped (to_edge b) byte_codes (λ e. (λ h. h, λ h. h)) (λ k. refl) (λ k kind. refl))
    parts
    (λ b e h. rw h.2)
    (λ b e h k. refl)
  where
    parts : (e : Entry) → ((Unit {0} × (entry_map e ≡ 2)) × FitsEntry e) ↔ ((b : Block) × (b.0 < 65536) × ((k : ℕ) × (k < 256) × (e ≡ to_edge b k)))
    parts (to_block b) = (λ h. absurd (omega (arith, h.0.1)), λ (c, h, (k, l, e)). let z : ◌≡◌ {A = ℕ} 0 1 = cc in absurd (omega arith))
    parts (to_edge b k) = (
      λ h. (b, h.1.0, (k, h.1.1, refl)),
      λ (c, h, (j, l, e)). let same : b ≡ c = cc in let same' : k ≡ j = cc in ((tt, refl), (subst (λ (x : Block). x.0 < 65536) (sym same) h, omega arith)),
    )
entry_of_codes (suc (suc (suc n))) range = absurd (omega arith)

pub entry_codes : Codes FitsEntry entry_bytes (λ e. free) order_entry
entry_codes = recode (keyed {known = λ e. Unit {0}} entry_map (ranged_codes 1 2 (omega arith)) entry_of_codes) fits bytes (λ e h k. refl)
  where
    fits : (e : Entry) → FitsEntry e ↔ (Unit {0} × (((1 ≤ entry_map e) × (entry_map e ≤ 2)) × FitsEntry e))
    fits (to_block b) = (λ h. (tt, ((omega arith, omega arith), h)), λ h. h.1.1)
    fits (to_edge b k) = (λ h. (tt, ((omega arith, omega arith), h)), λ h. h.1.1)

    bytes : (e : Entry) → Unit {0} × (((1 ≤ entry_map e) × (entry_map e ≤ 2)) × FitsEntry e) → entry_bytes e ≡ entry_map e ∷ entry_rest e
    bytes (to_block b) h = refl
    bytes (to_edge b k) h = refl
