-- A table of queues or sets: the things by number, the keys that lead to them, and the numbers used so far.
use Rattle.std.proofs.Common.{◌≡◌, ◌≢◌, ℕ, true, false, not, List, [], Some, ap, sym, subst, ◌∙◌, inl, inr}
use Rattle.std.specs.Prelude.{is_some}
use Rattle.std.proofs.lemmas.Bool.{cases_eq, and_parts, not-true}
use Rattle.number_maps.specs.Maps.{Numbered, get, put, without, is_used, used_with}
use Rattle.kernel_model.specs.Effect.{is_fresh}
use Rattle.kernel_model.specs.Numbers.{is_positive_u32}
use Rattle.kernel_model.specs.QueueCalls.{unbind}
use Rattle.kernel_model.specs.Valid.{AreKeys}
use Rattle.kernel_laws.proofs.Plain.{from_some, not_some, not_true}
use Rattle.number_maps.proofs.LookUps.{get-put-same, get-put-other, get-without-same, get-without-other}
use Rattle.number_maps.proofs.Sets.{used-with-same, used-stays}
use Rattle.number_maps.specs.Rising.{IsRising}
use Rattle.number_maps.proofs.Rising.{rising-nothing, rising-put, rising-filter}
use Rattle.kernel_laws.proofs.Unbinding.{get-unbound}

-- with what holds of each thing
pub record Table {V : Type 0} (P : V → Type 0) (things : Numbered V) (keys : Numbered ℕ) (used : List ℕ) : Type 0 where
  pub things_rise : IsRising things
  pub keys_rise : IsRising keys
  pub used_at : (n : ℕ) → is_some (get things n) ≡ true → is_used used n ≡ true
  pub lead : (key id : ℕ) → get keys key ≡ Some id → is_some (get things id) ≡ true
  pub apart : (key other id : ℕ) → get keys key ≡ Some id → get keys other ≡ Some id → key ≡ other
  pub each : (n : ℕ) (v : V) → get things n ≡ Some v → P v

-- an empty table is in order
pub table-empty : {V : Type 0} (P : V → Type 0) → Table P [] [] []
table-empty {V} P =
    record {
      things_rise = rising-nothing V;
      keys_rise = rising-nothing ℕ;
      used_at = λ n h. not_true h;
      lead = λ key id h. not_some id h;
      apart = λ key other id h g. not_some id h;
      each = λ n v h. not_some v h;
    }

-- its keys lead to what is there, each to its own
pub table-keys : {V : Type 0} (P : V → Type 0) (things : Numbered V) (keys : Numbered ℕ) (used : List ℕ)
    → Table P things keys used → AreKeys keys things
table-keys P things keys used t = record { ordered = t.keys_rise; lead = t.lead; apart = t.apart }

-- something is there after a put, where it was before or where it is put
pub there-put : {V : Type 0} (m : Numbered V) (k : ℕ) (v : V) (q : ℕ) → is_some (get m q) ≡ true
    → is_some (get (put m k v) q) ≡ true
there-put m k v q h =
    elim (cases_eq q k) [
      | inl same ↦ ap is_some (ap (λ r. get (put m k v) r) same ∙ get-put-same m k v)
      | inr ne ↦ ap is_some (get-put-other m k v q ne) ∙ h
    ]

each-put : {V : Type 0} (P : V → Type 0) (m : Numbered V) (k : ℕ) (v : V) → P v
    → ((n : ℕ) (w : V) → get m n ≡ Some w → P w)
    → (n : ℕ) (w : V) → get (put m k v) n ≡ Some w → P w
each-put P m k v p h n w g =
    elim (cases_eq n k) [
      | inl same ↦
          let e : v ≡ w = from_some v w (sym (get-put-same m k v) ∙ (ap (λ r. get (put m k v) r) (sym same) ∙ g)) in
          subst P e p
      | inr ne ↦ h n w (sym (get-put-other m k v n ne) ∙ g)
    ]

-- another value for what is there
pub table-change : {V : Type 0} (P : V → Type 0) (things : Numbered V) (keys : Numbered ℕ) (used : List ℕ)
    → Table P things keys used → (id : ℕ) (v : V)
    → is_some (get things id) ≡ true → P v → Table P (put things id v) keys used
table-change P things keys used t id v there p =
    record {
      things_rise = rising-put things id v t.things_rise;
      keys_rise = t.keys_rise;
      used_at = λ n h.
          elim (cases_eq n id) [
            | inl same ↦ subst (λ (r : ℕ). is_used used r ≡ true) (sym same) (t.used_at id there)
            | inr ne ↦ t.used_at n (sym (ap is_some (get-put-other things id v n ne)) ∙ h)
          ];
      lead = λ key i h. there-put things id v i (t.lead key i h);
      apart = t.apart;
      each = each-put P things id v p t.each;
    }

-- a number that may be given out isn't used
pub fresh-unused : (used : List ℕ) (n : ℕ) → is_fresh used n ≡ true → is_used used n ≡ false
fresh-unused used n h = not-true (is_used used n) (and_parts (is_positive_u32 n) (not (is_used used n)) h).1

used-put : {V : Type 0} (things : Numbered V) (used : List ℕ) (n : ℕ) (v : V)
    → ((q : ℕ) → is_some (get things q) ≡ true → is_used used q ≡ true)
    → (q : ℕ) → is_some (get (put things n v) q) ≡ true → is_used (used_with used n) q ≡ true
used-put things used n v h q g =
    elim (cases_eq q n) [
      | inl same ↦ subst (λ (r : ℕ). is_used (used_with used n) r ≡ true) (sym same) (used-with-same used n)
      | inr ne ↦ used-stays used n q (h q (sym (ap is_some (get-put-other things n v q ne)) ∙ g))
    ]

-- a new thing without a key
pub table-make : {V : Type 0} (P : V → Type 0) (things : Numbered V) (keys : Numbered ℕ) (used : List ℕ)
    → Table P things keys used → (n : ℕ) (v : V)
    → P v → Table P (put things n v) keys (used_with used n)
table-make P things keys used t n v p =
    record {
      things_rise = rising-put things n v t.things_rise;
      keys_rise = t.keys_rise;
      used_at = used-put things used n v t.used_at;
      lead = λ key i h. there-put things n v i (t.lead key i h);
      apart = t.apart;
      each = each-put P things n v p t.each;
    }

-- a new thing with a key: no key leads to its number yet
unbound-new : {V : Type 0} (P : V → Type 0) (things : Numbered V) (keys : Numbered ℕ) (used : List ℕ)
    → Table P things keys used → (n : ℕ)
    → is_used used n ≡ false → (key : ℕ) → get keys key ≡ Some n → ⊥
unbound-new P things keys used t n f key h = not_true (sym f ∙ t.used_at n (t.lead key n h))

lead-bind : {V : Type 0} (things : Numbered V) (keys : Numbered ℕ) (n key : ℕ) (v : V)
    → ((other id : ℕ) → get keys other ≡ Some id → is_some (get things id) ≡ true)
    → (other id : ℕ) → get (put keys key n) other ≡ Some id → is_some (get (put things n v) id) ≡ true
lead-bind things keys n key v h other id g =
    elim (cases_eq other key) [
      | inl same ↦
          let e : n ≡ id = from_some n id
          (sym (get-put-same keys key n) ∙ (ap (λ r. get (put keys key n) r) (sym same) ∙ g))
          in ap is_some (ap (λ r. get (put things n v) r) (sym e) ∙ get-put-same things n v)
      | inr ne ↦ there-put things n v id (h other id (sym (get-put-other keys key n other ne) ∙ g))
    ]

-- the number that a key leads to after the binding
bound-same : (keys : Numbered ℕ) (n key other id : ℕ) → get (put keys key n) other ≡ Some id → other ≡ key → n ≡ id
bound-same keys n key other id g same =
    from_some n id (sym (get-put-same keys key n) ∙ (ap (λ r. get (put keys key n) r) (sym same) ∙ g))

bound-other : (keys : Numbered ℕ) (n key other id : ℕ) → get (put keys key n) other ≡ Some id → other ≢ key
    → get keys other ≡ Some id
bound-other keys n key other id g ne = sym (get-put-other keys key n other ne) ∙ g

apart-bind : {V : Type 0} (P : V → Type 0) (things : Numbered V) (keys : Numbered ℕ) (used : List ℕ)
    → Table P things keys used → (n key : ℕ)
    → is_used used n ≡ false → (one other id : ℕ) → get (put keys key n) one ≡ Some id
    → get (put keys key n) other ≡ Some id → one ≡ other
apart-bind P things keys used t n key f one other id g h =
    elim (cases_eq one key) [
      | inl a ↦
          elim (cases_eq other key) [
            | inl b ↦ a ∙ sym b
            | inr b ↦
                absurd (unbound-new P things keys used t n f other
                (bound-other keys n key other id h b ∙ ap Some (sym (bound-same keys n key one id g a))))
          ]
      | inr a ↦
          elim (cases_eq other key) [
            | inl b ↦
                absurd (unbound-new P things keys used t n f one
                (bound-other keys n key one id g a ∙ ap Some (sym (bound-same keys n key other id h b))))
            | inr b ↦ t.apart one other id (bound-other keys n key one id g a) (bound-other keys n key other id h b)
          ]
    ]

-- a new thing with a key keeps a table in order
pub table-bind : {V : Type 0} (P : V → Type 0) (things : Numbered V) (keys : Numbered ℕ) (used : List ℕ)
    → Table P things keys used → (n key : ℕ) (v : V)
    → is_used used n ≡ false → P v → Table P (put things n v) (put keys key n) (used_with used n)
table-bind P things keys used t n key v f p =
    record {
      things_rise = rising-put things n v t.things_rise;
      keys_rise = rising-put keys key n t.keys_rise;
      used_at = used-put things used n v t.used_at;
      lead = lead-bind things keys n key v t.lead;
      apart = apart-bind P things keys used t n key f;
      each = each-put P things n v p t.each;
    }

-- what is there without a number was there, at another
pub get-left : {V : Type 0} (m : Numbered V) (id n : ℕ) (v : V) → get (without m id) n ≡ Some v → get m n ≡ Some v
get-left m id n v h =
    elim (cases_eq n id) [
      | inl same ↦ not_some v (sym (get-without-same m id) ∙ (ap (λ r. get (without m id) r) (sym same) ∙ h))
      | inr ne ↦ sym (get-without-other m id n ne) ∙ h
    ]

there-left : {V : Type 0} (m : Numbered V) (id n : ℕ) → is_some (get (without m id) n) ≡ true → is_some (get m n) ≡ true
there-left m id n h =
    elim (cases_eq n id) [
      | inl same ↦ not_true
          (sym (ap is_some (get-without-same m id)) ∙ (ap (λ r. is_some (get (without m id) r)) (sym same) ∙ h))
      | inr ne ↦ sym (ap is_some (get-without-other m id n ne)) ∙ h
    ]

-- a thing is gone, with the keys that led to it
pub table-remove : {V : Type 0} (P : V → Type 0) (things : Numbered V) (keys : Numbered ℕ) (used : List ℕ)
    → Table P things keys used → (id : ℕ)
    → Table P (without things id) (unbind keys id) used
table-remove P things keys used t id =
    record {
      things_rise = rising-filter _ things t.things_rise;
      keys_rise = rising-filter _ keys t.keys_rise;
      used_at = λ n h. t.used_at n (there-left things id n h);
      lead = λ key i h.
          let was = get-unbound keys id key i t.keys_rise h
          in ap is_some (get-without-other things id i was.1) ∙ t.lead key i was.0;
      apart = λ key other i g h.
          t.apart key other i (get-unbound keys id key i t.keys_rise g).0 (get-unbound keys id other i t.keys_rise h).0;
      each = λ n v h. t.each n v (get-left things id n v h);
    }
