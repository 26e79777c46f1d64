-- The records of a file: each is read back from what is written of it.
use Rattle.std.proofs.Common.{◌≡◌, ℕ, ◌+◌, ◌^◌, ◌<◌, ◌≤◌, cond, ◌↔◌, List, [], ◌∷◌, ◌++◌, length, is_some, IfSome, Some, None, Option, sym, refl, ap, zero-add, arith, lit<}
use Rattle.clif.specs.Rows.{opcode_number, opcode_of}
use Rattle.clif.specs.declared.types.«Type».{«Type» as Ty}
use Rattle.reader.specs.Data.{Destination, Instruction, Body, Func}
use Rattle.reader.specs.Within.{sum_of, uses_in, body_uses, body_values, FitsDestination, FitsInstruction, FitsBody, FitsEntry}
use Rattle.reader.specs.Writing.{little, listed, filled, optional, value_bytes, type_bytes, flag_bytes, destination_bytes, instruction_map, instruction_bytes, body_bytes, encode}
use Rattle.reader.specs.Reading.{Reads, ◌>>=◌, give, number, ranged, named, count, standing, present, flag_of, types, uses, destination, destinations, instruction, heading, body, func}
use Rattle.reader.specs.declared.totals.Kind.TheVariants.{Blocks, Insts, Values, Operands, Entries}
use Rattle.reader.proofs.Format.Costs.{Cost, free, both, share, sum_none, share_none}
use Rattle.reader.proofs.Format.Codes.{Codes, give_codes, recode, keyed}
use Rattle.reader.proofs.Format.Fields.{number_codes, count_codes, capped_codes, ranged_codes, repeated_codes, counted_codes, list_field, option_field}
use Rattle.reader.proofs.Format.Items.{value_codes, target_codes, type_codes, opcode_codes, flag_codes, entry_codes}
use Rattle.reader.proofs.Format.Maps.{SixBits, six_below, six_bits, six_number, one_bit, one_number, one_below}
use Rattle.std.proofs.lemmas.List.{append-nil, append_assoc}
use Rattle.std.specs.List.{AllByRecursion}

-- the last step of a record: all of it is known
whole : {B : Type 0} {known : B → Type 0} {r : B} → ((b : B) → known b ↔ (b ≡ r)) → Codes (λ b. known b × Unit {0}) (λ b. []) (λ b. free) (give r)
whole is = recode give_codes (λ b. (λ h. (is b).0 h.0, λ h. ((is b).1 h, tt))) (λ b h. refl) (λ b h k. refl)

-- the count of the destinations
some_codes : Codes (λ n. (1 ≤ n) × (n < 256 ^ 1)) (little 1) (λ n. free) (ranged 1 255)
some_codes = recode (ranged_codes 1 255 (omega arith)) (λ n. (λ h. (h.0, omega arith), λ h. (h.0, omega arith))) (λ n h. ap (λ x. x ∷ []) (omega (arith, h.1))) (λ n h k. refl)

ruleset costs = (arith, sum_none)

abbrev destination_cost : Destination → Cost
destination_cost d Blocks = 0
destination_cost d Insts = 0
destination_cost d Values = 0
destination_cost d Operands = length d.args
destination_cost d Entries = 0

destination_codes : Codes FitsDestination destination_bytes destination_cost destination
destination_codes =
    recode
    (keyed {known = λ d. Unit {0}} (λ d. d.target) target_codes λ b h.
    keyed (λ d. d.args) (counted_codes 1 (count_codes 1 0 Operands) value_codes) λ vs h.
    whole (λ d. (λ h i. record { target = h.0.1 i; args = h.1 i }, λ h. ((tt, ap (λ (d : Destination). d.target) h), ap (λ (d : Destination). d.args) h))))
    (λ d. (
      λ h. (tt, (h.target_word, (((omega arith, omega arith), h.args_words), tt))),
      λ h. record { target_word = h.1.0; args_count = omega arith; args_words = h.1.1.0.1 },
    ))
    (λ d h. simp append-nil)
    (λ d h. elim [ Blocks ↦ omega costs | Insts ↦ omega costs | Values ↦ omega costs | Operands ↦ omega costs | Entries ↦ omega costs ])

abbrev instruction_cost : Instruction → Cost
instruction_cost x Blocks = 0
instruction_cost x Insts = 0
instruction_cost x Values = length x.results
instruction_cost x Operands = uses_in x
instruction_cost x Entries = 0

-- an instruction behind its map byte
abbrev instruction_rest : ℕ → Reads Instruction
instruction_rest map =
    named opcode_of >>= λ opcode.
    standing map 1 [] (uses 1) >>= λ operands.
    standing map 2 None (present (number 8)) >>= λ immediate.
    standing map 4 [] types >>= λ results.
    standing map 8 [] destinations >>= λ destinations.
    standing map 16 None (present (named flag_of)) >>= λ flag.
    standing map 32 None (present (number 4)) >>= λ location.
    give (record { opcode = opcode; operands = operands; immediate = immediate; results = results; destinations = destinations; flag = flag; location = location })

abbrev rest_bytes : Instruction → List ℕ
rest_bytes x =
    opcode_number x.opcode ∷
    (listed 1 value_bytes x.operands
    ++ (optional (little 8) x.immediate
    ++ (listed 1 type_bytes x.results
    ++ (listed 1 destination_bytes x.destinations
    ++ (optional flag_bytes x.flag
    ++ optional (little 4) x.location)))))

-- nothing is asked of types and flags
every_unit : {E : Type 0} (xs : List E) → AllByRecursion (λ x. Unit {0}) xs
every_unit [] = tt
every_unit (x ∷ xs) = (tt, every_unit xs)

some_unit : {E : Type 0} (o : Option E) → IfSome o (λ x. Unit {0})
some_unit None = tt
some_unit (Some x) = tt

abbrev Bits : Instruction → ℕ → Type 0
Bits x = SixBits (filled x.operands) (is_some x.immediate) (filled x.results) (filled x.destinations) (is_some x.flag) (is_some x.location)

rest_codes : (map : ℕ) → map ≤ 63 → Codes (λ x. (Unit {0} × (instruction_map x ≡ map)) × FitsInstruction x) rest_bytes instruction_cost (instruction_rest map)
rest_codes map small =
    recode
    (keyed {known = λ x. Unit {0}} (λ x. x.opcode) opcode_codes λ a _.
    keyed (λ x. x.operands) (list_field map 1 1 (count_codes 1 1 Operands) value_codes (share_none Operands)) λ b _.
    keyed (λ x. x.immediate) (option_field map 2 (number_codes 8)) λ c _.
    keyed (λ x. x.results) (list_field map 4 1 (count_codes 1 1 Values) type_codes (share_none Values)) λ d _.
    keyed (λ x. x.destinations) (list_field map 8 1 some_codes destination_codes (λ k. refl)) λ e _.
    keyed (λ x. x.flag) (option_field map 16 flag_codes) λ f _.
    keyed (λ x. x.location) (option_field map 32 (number_codes 4)) λ g _.
    whole λ x. (
      λ (((((((_, o), p), q), r), s), t), u) i. record { opcode = o i; operands = p i; immediate = q i; results = r i; destinations = s i; flag = t i; location = u i },
      λ h. (((((((tt, ap (λ (x : Instruction). x.opcode) h), ap (λ (x : Instruction). x.operands) h), ap (λ (x : Instruction). x.immediate) h), ap (λ (x : Instruction). x.results) h), ap (λ (x : Instruction). x.destinations) h), ap (λ (x : Instruction). x.flag) h), ap (λ (x : Instruction). x.location) h),
    ))
    (λ x. (
      λ ((_, is_map), h).
          let bits : Bits x map = six_bits _ _ _ _ _ _ map is_map in (
            tt,
            (
              tt,
              (
                (bits.one, (omega arith, h.operand_words)),
                (
                  (bits.two, h.immediate_bits),
                  (
                    (bits.four, (omega arith, every_unit x.results)),
                    (
                      (bits.eight, (omega arith, h.each_destination)),
                      (
                        (bits.sixteen, some_unit x.flag),
                        ((bits.thirty_two, h.location_bits), tt),
                      ),
                    ),
                  ),
                ),
              ),
            ),
          ),
      λ (_, (_, ((one, operands), ((two, immediate), ((four, results), ((eight, dests), ((sixteen, flag), ((thirty_two, location), _)))))))).
          let bits : Bits x map = record { one = one; two = two; four = four; eight = eight; sixteen = sixteen; thirty_two = thirty_two } in (
            (tt, six_number _ _ _ _ _ _ map small bits),
            record {
              operand_count = omega arith;
              operand_words = operands.1;
              immediate_bits = immediate;
              result_count = omega arith;
              destination_count = omega arith;
              each_destination = dests.1;
              location_bits = location;
            },
          ),
    ))
    (λ x h. simp append-nil)
    (λ x h. elim [ Blocks ↦ omega costs | Insts ↦ omega costs | Values ↦ omega costs | Operands ↦ omega costs | Entries ↦ omega costs ])

instruction_codes : Codes FitsInstruction instruction_bytes instruction_cost instruction
instruction_codes =
    recode
    (keyed {known = λ x. Unit {0}} instruction_map (ranged_codes 0 63 (omega arith)) (λ map range. rest_codes map range.1))
    (λ x. (
      λ h. (tt, ((omega arith, six_below _ _ _ _ _ _), h)),
      λ h. h.1.1,
    ))
    (λ x h. refl)
    (λ x h k. sym (zero-add (instruction_cost x k)))

-- a block up to its instructions
abbrev heading_map : List Ty × ℕ → ℕ
heading_map h = 2 + cond (filled h.0) 1 0

abbrev FitsHeading : List Ty × ℕ → Type 0
FitsHeading h = (length h.0 ≤ 255) × (1 ≤ h.1)

abbrev heading_cost : List Ty × ℕ → Cost
heading_cost h = both (share Values (length h.0)) (share Insts h.1)

under_map : (map : ℕ) → (2 ≤ map) × (map ≤ 3)
    → Codes (λ h. (Unit {0} × (heading_map h ≡ map)) × FitsHeading h) (λ h. listed 1 type_bytes h.0 ++ little 2 h.1) heading_cost
    (standing map 1 [] types >>= λ params. count 2 1 Insts >>= λ n. give (params, n))
under_map map (low, high) =
    recode
    (keyed {known = λ h. Unit {0}} (λ h. h.0) (list_field map 1 1 (count_codes 1 1 Values) type_codes (share_none Values)) λ a _.
    keyed (λ h. h.1) (capped_codes 2 1 Insts (lit< tt)) λ b _.
    whole λ h. (λ ((_, p), q) i. (p i, q i), λ e. ((tt, ap (λ (h : List Ty × ℕ). h.0) e), ap (λ (h : List Ty × ℕ). h.1) e)))
    (λ h. (
      λ ((_, is_map), (few, some)). (tt, ((one_bit (filled h.0) map is_map, (omega arith, every_unit h.0)), (some, tt))),
      λ (_, ((bit, (few, _)), (some, _))). ((tt, one_number (filled h.0) map low high bit), (omega arith, some)),
    ))
    (λ h _. simp append-nil)
    (λ h _ k. omega (costs, sum_none h.0))

heading_codes : Codes FitsHeading (λ h. heading_map h ∷ (listed 1 type_bytes h.0 ++ little 2 h.1)) heading_cost heading
heading_codes =
    recode (keyed {known = λ h. Unit {0}} heading_map (ranged_codes 2 3 (omega arith)) under_map)
    (λ h. (λ e. (tt, ((omega arith, one_below (filled h.0)), e)), λ e. e.1.1))
    (λ h _. refl)
    (λ h _ k. omega arith)

abbrev body_cost : Body → Cost
body_cost b Blocks = 0
body_cost b Insts = length b.insts
body_cost b Values = body_values b
body_cost b Operands = body_uses b
body_cost b Entries = 0

body_codes : Codes FitsBody body_bytes body_cost body
body_codes =
    recode
    (keyed {known = λ b. Unit {0}} (λ b. (b.params, length b.insts)) heading_codes λ h _.
    recode
    (keyed {known = λ b. b.params ≡ h.0} (λ b. b.insts) (repeated_codes instruction_codes h.1) λ is _.
    whole λ b. (λ (p, q) i. record { params = p i; insts = q i }, λ e. (ap (λ (b : Body). b.params) e, ap (λ (b : Body). b.insts) e)))
    (λ b. (
      λ ((_, e), each). (ap (λ (h : List Ty × ℕ). h.0) e, ((ap (λ (h : List Ty × ℕ). h.1) e, each), tt)),
      λ (p, ((n, each), _)). ((tt, λ i. (p i, n i)), each),
    ))
    (λ b _. refl) (λ b _ k. refl))
    (λ b. (
      λ h. (tt, ((h.param_count, h.some_inst), h.each_inst)),
      λ (_, ((few, some), each)). record { param_count = few; some_inst = some; each_inst = each },
    ))
    (λ b h. simp (append-nil, append_assoc))
    (λ b h. elim [ Blocks ↦ omega costs | Insts ↦ omega costs | Values ↦ omega costs | Operands ↦ omega costs | Entries ↦ omega costs ])

-- a function: what it holds, apart from its totals
pub record FitsFunc (f : Func) : Type 0 where
  pub some_block : 1 ≤ length f.blocks
  pub some_entry : 1 ≤ length f.order
  pub each_block : AllByRecursion FitsBody f.blocks
  pub each_entry : AllByRecursion FitsEntry f.order

abbrev pub func_cost : Func → Cost
func_cost f Blocks = length f.blocks
func_cost f Insts = sum_of (λ b. length b.insts) f.blocks
func_cost f Values = sum_of body_values f.blocks
func_cost f Operands = sum_of body_uses f.blocks
func_cost f Entries = length f.order

pub func_codes : Codes FitsFunc encode func_cost func
func_codes =
    recode
    (keyed {known = λ f. Unit {0}} {ok' = λ f. AllByRecursion FitsBody f.blocks × ((1 ≤ length f.order) × AllByRecursion FitsEntry f.order)} (λ f. length f.blocks) (capped_codes 2 1 Blocks (lit< tt)) λ n _.
    recode
    (keyed {known = λ f. Unit {0}} (λ f. f.blocks) (repeated_codes body_codes n) λ bs _.
    keyed (λ f. f.order) (counted_codes 2 (capped_codes 2 1 Entries (lit< tt)) entry_codes) λ es _.
    whole λ f. (λ ((_, p), q) i. record { blocks = p i; order = q i }, λ e. ((tt, ap (λ (f : Func). f.blocks) e), ap (λ (f : Func). f.order) e)))
    (λ f. (
      λ ((_, e), (each, entries)). (tt, ((e, each), (entries, tt))),
      λ (_, ((e, each), (entries, _))). ((tt, e), (each, entries)),
    ))
    (λ f _. refl) (λ f _ k. refl))
    (λ f. (
      λ h. (tt, (h.some_block, (h.each_block, (h.some_entry, h.each_entry)))),
      λ (_, (some, (blocks, (some_entry, entries)))). record { some_block = some; some_entry = some_entry; each_block = blocks; each_entry = entries },
    ))
    (λ f h. simp append-nil)
    (λ f h. elim [ Blocks ↦ omega costs | Insts ↦ omega costs | Values ↦ omega costs | Operands ↦ omega costs | Entries ↦ omega costs ])
