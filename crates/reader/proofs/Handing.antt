-- What is left of a file is the next record and then what is left.
use Rattle.std.proofs.Common.{◌≡◌, ℕ, zero, suc, ◌-◌, ◌<◌, ◌≤◌, Bool, true, false, cond, eqb, leb, List, [], ◌∷◌, length, take, drop, Some, None, Ok, Err, Option, sym, refl, ap, ◌∙◌, subst, arith}
use Rattle.std.proofs.lemmas.Bool.{leb-true}
use Rattle.std.proofs.lemmas.List.{length-drop}
use Rattle.clif.specs.Refusals.{refusal_number, refusal_place}
use Rattle.clif.specs.declared.entities.Entry.{Entry}
use Rattle.clif.specs.declared.refusals.Refusal.{Refusal}
use Rattle.clif.specs.declared.types.«Type».{«Type» as Ty}
use Rattle.reader.specs.Data.{Instruction, limit}
use Rattle.reader.specs.Reading.{Reads, Spot, Read, got, fault, after, place, done, refused, ended, repeated, here, ranged, standing, types, instruction, heading, body, order_entry, count, admitted, number, number_of, raised, total}
use Rattle.reader.specs.Records.{instruction_of, heading_of, types_in}
use Rattle.reader.specs.Stream.{left, Tail, remaining, mapped_outcome, due_count, order_left, entries_due, entry_place, Handed}
use Rattle.reader.specs.Told.{spot, ReadAs}
use Rattle.reader.specs.declared.fields.Fields.{Fields}
use Rattle.reader.specs.declared.reader.Reader.{Reader}
use Rattle.reader.specs.declared.records.BlockRecord.{BlockRecord}
use Rattle.reader.specs.declared.records.InstRecord.{InstRecord}
use Rattle.reader.specs.declared.records.OrderRecord.{OrderRecord}
use Rattle.reader.specs.declared.records.Record.TheVariants.{Block, Inst, Order}
use Rattle.reader.specs.declared.totals.Kind.{Kind}
use Rattle.reader.specs.declared.totals.Kind.TheVariants.{Insts, Entries}
use Rattle.reader.proofs.Turns.{after_back, repeated_length}

pub after_assoc : {A B C : Type 0} (r : Read A) (k : A → Spot → Read B) (l : B → Spot → Read C) → after (after r k) l ≡ after r (λ a t. after (k a t) l)
after_assoc (got a t) k l = refl
after_assoc (fault n p) k l = refl

end_cond : {A B : Type 0} (f : A → B) (b : Bool) (a : A) (n p : ℕ) → mapped_outcome f (cond b (done a) (refused n p)) ≡ cond b (done (f a)) (refused n p)
end_cond f true a n p = refl
end_cond f false a n p = refl

pub map_ended : {A B : Type 0} (f : A → B) (size : ℕ) (r : Read A) → mapped_outcome f (ended size r) ≡ ended size (after r (λ a t. got (f a) t))
map_ended f size (got a s) = end_cond f (eqb (length s.rest) 0) a 1 _
map_ended f size (fault n p) = refl

abbrev pub with_inst : Instruction → Tail → Tail
with_inst a t = record { insts = a ∷ t.insts; blocks = t.blocks; order = t.order }

abbrev pub with_block : List Ty → Tail → Tail
with_block ps t = record { insts = []; blocks = record { params = ps; insts = t.insts } ∷ t.blocks; order = t.order }

abbrev pub with_entry : Entry → Tail → Tail
with_entry e t = record { insts = t.insts; blocks = t.blocks; order = e ∷ t.order }

-- a reading with its place: what it read, and the place
here_got : {A : Type 0} (p : Reads A) (size : ℕ) (s t : Spot) (n : ℕ) (a : A) → got (n, a) t ≡ here p size s → (got a t ≡ p size s) × (n ≡ place size s)
here_got {A} p size s t n a = go (p size s)
  where
    go : (r : Read A) → ◌≡◌ {A = Read (ℕ × A)} (got (n, a) t) (after r (λ b u. got (place size s, b) u)) → (got a t ≡ r) × (n ≡ place size s)
    go (got b u) e =
        let same : ◌≡◌ {A = ℕ × A} (n, a) (place size s, b) = cc in
        let read : a ≡ b = ap (λ w. w.1) same in
        (cc, ap (λ w. w.0) same)
    go (fault m q) e = cc

here_fault : {A : Type 0} (p : Reads A) (size : ℕ) (s : Spot) (n q : ℕ) → fault n q ≡ here p size s → fault n q ≡ p size s
here_fault {A} p size s n q = go (p size s)
  where
    go : (r : Read A) → ◌≡◌ {A = Read (ℕ × A)} (fault n q) (after r (λ b u. got (place size s, b) u)) → fault n q ≡ r
    go (got b u) e = cc
    go (fault m k) e = cc

module _ (size : ℕ) (o : Option ℕ) (s : Spot) where
  pub inst_next : (z i b : ℕ) (t : Spot) (a : Instruction) → z ≡ size → 0 < i → got a t ≡ instruction size s
      → ended size (remaining i b o size s) ≡ mapped_outcome (with_inst a) (ended z (remaining (i - 1) b o z t))
  inst_next z zero b t a y h e = absurd (omega arith)
  inst_next z (suc i) b t a y h e = let k : suc i - 1 ≡ i = omega arith in rw (y, k, ← e) (simp (map_ended, after_assoc))

  pub inst_wrong : (i b n p : ℕ) → 0 < i → fault n p ≡ instruction size s → ended size (remaining i b o size s) ≡ refused n p
  inst_wrong zero b n p h e = absurd (omega arith)
  inst_wrong (suc i) b n p h e = rw (← e)

  pub block_next : (z i b : ℕ) (t : Spot) (ps : List Ty) (n : ℕ) → z ≡ size → i ≡ 0 → 0 < b → got (ps, n) t ≡ heading size s
      → ended size (remaining i b o size s) ≡ mapped_outcome (with_block ps) (ended z (remaining n (b - 1) o z t))
  block_next z i zero t ps n y iz h e = absurd (omega arith)
  block_next z i (suc b) t ps n y iz h e = let k : suc b - 1 ≡ b = omega arith in rw (y, iz, k, ← e) (simp (map_ended, after_assoc))

  pub block_wrong : (i b n p : ℕ) → i ≡ 0 → 0 < b → fault n p ≡ heading size s → ended size (remaining i b o size s) ≡ refused n p
  block_wrong i zero n p iz h e = absurd (omega arith)
  block_wrong i (suc b) n p iz h e = rw (iz, ← e)

  -- behind the last block
  module _ (i b : ℕ) (iz : i ≡ 0) (bz : b ≡ 0) where
    pub count_wrong : (n p : ℕ) → fault n p ≡ due_count o size s → ended size (remaining i b o size s) ≡ refused n p
    count_wrong n p e = rw (iz, bz, ← e)

    pub entry_wrong : (m : ℕ) (t : Spot) (n p : ℕ) → 0 < m → got m t ≡ due_count o size s → fault n p ≡ order_entry size t → ended size (remaining i b o size s) ≡ refused n p
    entry_wrong zero t n p h e f = absurd (omega arith)
    entry_wrong (suc m) t n p h e f = rw (iz, bz, ← e, ← f)

    pub entry_next : (z m : ℕ) (t u : Spot) (x : Entry) → z ≡ size → 0 < m → got m t ≡ due_count o size s → got x u ≡ order_entry size t
        → ended size (remaining i b o size s) ≡ mapped_outcome (with_entry x) (ended z (remaining i b (Some (m - 1)) z u))
    entry_next z zero t u x y h e f = absurd (omega arith)
    entry_next z (suc m) t u x y h e f = let k : suc m - 1 ≡ m = omega arith in rw (y, iz, bz, k, ← e, ← f) (simp (map_ended, after_assoc))

pub ended_back : {A : Type 0} (size : ℕ) (r : Read A) (a : A) → ended size r ≡ done a → (s : Spot) × (r ≡ got a s)
ended_back size (got x s) a e = go (eqb (length s.rest) 0) e
  where
    go : (b : Bool) → cond b (done x) (refused 1 (place size s)) ≡ done a → (t : Spot) × (got x s ≡ got a t)
    go true f = (s, cc)
    go false f = absurd (let z : ◌≡◌ {A = ℕ} 0 1 = cc in omega arith)
ended_back size (fault n p) a e = absurd (let z : ◌≡◌ {A = ℕ} 0 1 = cc in omega arith)

-- as many instructions come as the reader still has for the block at hand, and as many blocks
pub left_length : (x : Reader) (t : Tail) → left x ≡ done t → (length t.insts ≡ x.insts) × (length t.blocks ≡ x.blocks)
left_length x t e =
    let size = x.fields.size in
    let g = ended_back size (remaining x.insts x.blocks x.entries size (spot x.fields)) t e in
    let a = after_back (repeated x.insts instruction size (spot x.fields)) _ t g.0 g.1 in
    let b = after_back (repeated x.blocks body size a.1) _ t g.0 a.3 in
    let d = after_back (order_left x.entries size b.1) _ t g.0 b.3 in
    let y : t ≡ record { insts = a.0; blocks = b.0; order = d.0 } = cc in (
      ap (λ u. length u.insts) y ∙ repeated_length instruction size x.insts (spot x.fields) a.1 a.0 a.2,
      ap (λ u. length u.blocks) y ∙ repeated_length body size x.blocks a.1 b.1 b.0 b.2,
    )

-- a count within its limit, and where reading stands behind it
admitted_back : (at n least : ℕ) (k : Kind) (u t : Spot) (m : ℕ) → admitted at n least k u ≡ got m t → (m ≤ limit k) × (t.rest ≡ u.rest)
admitted_back at n least k u t m e = go (leb least n) (leb n (limit k - total k u.totals)) refl e
  where
    go : (a b : Bool) → leb n (limit k - total k u.totals) ≡ b → cond a (cond b (got n (record { rest = u.rest; totals = raised k n u.totals })) (fault 2 at)) (fault 1 at) ≡ got m t
        → (m ≤ limit k) × (t.rest ≡ u.rest)
    go true true h e =
        let small = leb-true n (limit k - total k u.totals) h in
        let same : n ≡ m = cc in
        (omega arith, sym (ap (λ r. elim r [ got x v ↦ v.rest | fault i j ↦ u.rest ]) e))
    go true false h e = cc
    go false b h e = cc

number_rest : (k size : ℕ) (s u : Spot) (m : ℕ) → number k size s ≡ got m u → u.rest ≡ drop k s.rest
number_rest k size s u m e = go (leb k (length s.rest)) e
  where
    go : (a : Bool) → cond a (got (number_of (take k s.rest)) (record { rest = drop k s.rest; totals = s.totals })) (fault 1 (place size s)) ≡ got m u → u.rest ≡ drop k s.rest
    go true e = sym (ap (λ r. elim r [ got x v ↦ v.rest | fault i j ↦ drop k s.rest ]) e)
    go false e = cc

count_back : (k least size : ℕ) (kind : Kind) (s t : Spot) (m : ℕ) → got m t ≡ count k least kind size s → (m ≤ limit kind) × (t.rest ≡ drop k s.rest)
count_back k least size kind s t m e =
    let a = after_back (number k size s) _ m t (sym e) in
    let b = admitted_back (place size s) a.0 least kind a.1 t m a.3 in
    (b.0, b.1 ∙ number_rest k size s a.1 a.0 a.2)

pub count_place : (o : Option ℕ) (size m : ℕ) (s t : Spot) → got m t ≡ due_count o size s → place size t ≡ entry_place o size s
count_place None size m s t e = ap (λ l. size - l) (ap length (count_back 2 1 size Entries s t m e).1 ∙ length-drop 2 s.rest)
count_place (Some n) size m s t e = ap (λ r. elim r [ got x v ↦ place size v | fault i j ↦ 0 ]) e

-- fewer entries are due than before, whether their count was read or not
pub entries_fall : (o : Option ℕ) (size m : ℕ) (s t : Spot) → 0 < m → got m t ≡ due_count o size s → m - 1 < entries_due o
entries_fall None size m s t h e = let few = (count_back 2 1 size Entries s t m e).0 in omega arith
entries_fall (Some n) size m s t h e = let q : m ≡ n = cc in omega arith

heading_few : (size n : ℕ) (s t : Spot) (ps : List Ty) → got (ps, n) t ≡ heading size s → n ≤ limit Insts
heading_few size n s t ps e =
    let a = after_back (ranged 2 3 size s) _ (ps, n) t (sym e) in
    let b = after_back (standing a.0 1 [] types size a.1) _ (ps, n) t a.3 in
    let d = after_back (count 2 1 Insts size b.1) _ (ps, n) t b.3 in
    let same : ◌≡◌ {A = List Ty × ℕ} (b.0, d.0) (ps, n) = cc in
    subst (λ m. m ≤ limit Insts) (ap (λ w. w.1) same) (count_back 2 1 size Insts b.1 d.1 d.0 (sym d.2)).0

refused_handed : (x y : Reader) (q : Refusal) → left x ≡ refused (refusal_number q) (refusal_place q) → Handed x (Err q) y
refused_handed x y q h = record { hands = h; falls = tt; counts = tt; placed = tt }

-- the records that the reader hands out, and its refusals
pub inst_handed : (x : Reader) (f : Fields) (i : InstRecord) → 0 < x.insts → ReadAs (λ (i : InstRecord). (i.place, instruction_of i)) (here instruction) x.fields (Ok i) f
    → Handed x (Ok (Some (Inst i))) (record x { fields = f; insts = x.insts - 1 })
inst_handed x f i some r =
    let e = here_got instruction x.fields.size (spot x.fields) (spot f) i.place (instruction_of i) r.tells in
    record { hands = inst_next x.fields.size x.entries (spot x.fields) f.size x.insts x.blocks (spot f) (instruction_of i) r.size some e.0; falls = omega (arith, some); counts = tt; placed = e.1 }

pub inst_refused : (x : Reader) (f : Fields) (q : Refusal) → 0 < x.insts → ReadAs (λ (i : InstRecord). (i.place, instruction_of i)) (here instruction) x.fields (Err q) f → Handed x (Err q) (record x { fields = f })
inst_refused x f q some r =
    refused_handed x _ q (inst_wrong x.fields.size x.entries (spot x.fields) x.insts x.blocks _ _ some (here_fault instruction x.fields.size (spot x.fields) _ _ r.tells))

pub block_handed : (x : Reader) (f : Fields) (b : BlockRecord) → x.insts ≡ 0 → 0 < x.blocks → ReadAs (λ (b : BlockRecord). (b.place, heading_of b)) (here heading) x.fields (Ok b) f
    → Handed x (Ok (Some (Block b))) (record x { fields = f; insts = b.insts; blocks = x.blocks - 1 })
block_handed x f b none some r =
    let e = here_got heading x.fields.size (spot x.fields) (spot f) b.place (heading_of b) r.tells in
    record {
      hands = block_next x.fields.size x.entries (spot x.fields) f.size x.insts x.blocks (spot f) (types_in b.params) b.insts r.size none some e.0;
      falls = omega (arith, none, some, heading_few x.fields.size b.insts (spot x.fields) (spot f) (types_in b.params) e.0);
      counts = refl;
      placed = e.1;
    }

pub block_refused : (x : Reader) (f : Fields) (q : Refusal) → x.insts ≡ 0 → 0 < x.blocks → ReadAs (λ (b : BlockRecord). (b.place, heading_of b)) (here heading) x.fields (Err q) f
    → Handed x (Err q) (record x { fields = f })
block_refused x f q none some r =
    refused_handed x _ q (block_wrong x.fields.size x.entries (spot x.fields) x.insts x.blocks _ _ none some (here_fault heading x.fields.size (spot x.fields) _ _ r.tells))

pub count_refused : (x : Reader) (f : Fields) (q : Refusal) → x.insts ≡ 0 → x.blocks ≡ 0 → ReadAs (λ (n : ℕ). n) (due_count x.entries) x.fields (Err q) f → Handed x (Err q) (record x { fields = f })
count_refused x f q none last r = refused_handed x _ q (count_wrong x.fields.size x.entries (spot x.fields) x.insts x.blocks none last _ _ r.tells)

module _ (x : Reader) (f g : Fields) (m : ℕ) (none : x.insts ≡ 0) (last : x.blocks ≡ 0) (some : 0 < m) (h : ReadAs (λ (n : ℕ). n) (due_count x.entries) x.fields (Ok m) f) where
  pub entry_handed : (o : OrderRecord) → ReadAs (λ (o : OrderRecord). (o.place, o.«entry»)) (here order_entry) f (Ok o) g
      → Handed x (Ok (Some (Order o))) (record x { fields = g; entries = Some (m - 1) })
  entry_handed o r =
      let t : got (o.place, o.«entry») (spot g) ≡ here order_entry x.fields.size (spot f) = rw (← h.size) r.tells in
      let e = here_got order_entry x.fields.size (spot f) (spot g) o.place o.«entry» t in
      let fall = entries_fall x.entries x.fields.size m (spot x.fields) (spot f) some h.tells in
      record {
        hands = entry_next x.fields.size x.entries (spot x.fields) x.insts x.blocks none last g.size m (spot f) (spot g) o.«entry» (r.size ∙ h.size) some h.tells e.0;
        falls = omega (arith, none, last, fall);
        counts = (none, last);
        placed = e.1 ∙ count_place x.entries x.fields.size m (spot x.fields) (spot f) h.tells;
      }

  pub entry_refused : (q : Refusal) → ReadAs (λ (o : OrderRecord). (o.place, o.«entry»)) (here order_entry) f (Err q) g → Handed x (Err q) (record x { fields = g })
  entry_refused q r =
      let t = here_fault order_entry x.fields.size (spot f) _ _ (rw (← h.size) r.tells) in
      refused_handed x _ q (entry_wrong x.fields.size x.entries (spot x.fields) x.insts x.blocks none last m (spot f) _ _ some h.tells t)
