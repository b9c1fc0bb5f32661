-- What keys lead to after an entry: the leader's tables keep the kernel's keys.
use Rattle.std.proofs.Common.{◌≡◌, ◌≢◌, ℕ, Bool, true, false, not, length, cond, Option, Some, None, refl, ap, sym, ◌∙◌, inl, inr, nat_eq, nat_cmp}
use Rattle.std.specs.Prelude.{if◌then◌else◌}
use Rattle.std.specs.Option.{option_map, option_map_or, option_and_then}
use Rattle.std.specs.Ordering.{eq_by_cmp}
use Rattle.std.proofs.lemmas.Bool.{cases_eq}
use Rattle.std.proofs.lemmas.Cmp.{eq_by_cmp_equiv, nat_cmp_total}
use Rattle.std.proofs.lemmas.Map.Entries.{lookup-filter-values, option_filter}
use Rattle.std.proofs.lemmas.Map.Keys.{IsDistinct-from_sorted}
use Rattle.pico_base.specs.declared.numbers.Name.TheVariants.{Sem}
use Rattle.key_table.specs.declared.Bound.{Bound}
use Rattle.number_maps.specs.Maps.{Numbered, get, put, without_value}
use Rattle.number_maps.specs.Rising.{IsRising}
use Rattle.number_maps.proofs.LookUps.{get-put-same, get-put-other}
use Rattle.kernel_model.specs.Kernel.{Kernel}
use Rattle.kernel_model.specs.QueueCalls.{unbind}
use Rattle.kernel_model.specs.SemaphoreSet.{SemaphoreSet}
use Rattle.kernel_model.specs.SetCalls.{set_size}
use Rattle.waiting_model.specs.Waiters.{unawaited}
use Rattle.node_model.specs.Bodies.{Body, ASet, body_in, set_body}
use Rattle.entry_laws.specs.Entering.{HasKeys, KeepsKeys, bound_to, other_than, unless_removed, without_keys_of}

-- ---- a table without some of its values

kept-is : {V : Type 0} (f : V → ℕ) (id : ℕ) (v : V) (t : Bool) → nat_eq (f v) id ≡ t
    → cond (not t) (Some v) None ≡ (if t then None else Some v)
kept-is f id v true h = refl
kept-is f id v false h = refl

filtered-is : {V : Type 0} (f : V → ℕ) (id : ℕ) (o : Option V)
    → option_filter (λ v. not (nat_eq (f v) id)) o ≡ option_and_then (λ v. if nat_eq (f v) id then None else Some v) o
filtered-is f id None = refl
filtered-is f id (Some v) = kept-is f id v (nat_eq (f v) id) refl

-- the values that don't lead to this identifier stay
pub get-filtered : {V : Type 0} (f : V → ℕ) (id : ℕ) (m : Numbered V) (key : ℕ) → IsRising m
    → get (without_value f m id) key
    ≡ option_and_then (λ v. if nat_eq (f v) id then None else Some v) (get m key)
get-filtered f id m key rises =
    lookup-filter-values {eq = eq_by_cmp nat_cmp} (eq_by_cmp_equiv nat_cmp_total) (λ v. not (nat_eq (f v) id)) key m
    (IsDistinct-from_sorted nat_cmp _ rises)
    ∙ filtered-is f id (get m key)

-- what a key leads to once an identifier is unbound
pub get-unbound : (keys : Numbered ℕ) (id key : ℕ) → IsRising keys
    → get (unbind keys id) key ≡ option_and_then (other_than id) (get keys key)
get-unbound keys id key rises = get-filtered (λ v. v) id keys key rises

-- ---- sizes

-- how many semaphores a body has
unfoldable pub size_in : Body → ℕ
size_in (ASet set) = length set.state.semaphores
size_in body = 0

size-by : (o : Option SemaphoreSet) → option_map_or (λ set. length set.semaphores) o 0 ≡ size_in (set_body o)
unfolding size_in
size-by None = refl
size-by (Some s) = refl

-- a set's size is that of its body
pub size-by-body : (j k : Kernel) (id : ℕ) → size_in (body_in j (Sem id)) ≡ size_in (body_in k (Sem id))
    → set_size j id ≡ set_size k id
size-by-body j k id same = size-by (get j.sets id) ∙ same ∙ sym (size-by (get k.sets id))

-- the same body has the same size
pub size-same : (j k : Kernel) (id : ℕ) → body_in j (Sem id) ≡ body_in k (Sem id) → set_size j id ≡ set_size k id
size-same j k id same = size-by (get j.sets id) ∙ ap size_in same ∙ sym (size-by (get k.sets id))

pub size-of-set : (k : Kernel) (id : ℕ) (s : SemaphoreSet) → body_in k (Sem id) ≡ ASet (unawaited s)
    → set_size k id ≡ length s.semaphores
unfolding size_in
size-of-set k id s is = size-by (get k.sets id) ∙ ap size_in is

-- ---- the leader's tables

map-same : {A B : Type 0} (f g : A → B) (o : Option A) → ((x : A) → o ≡ Some x → f x ≡ g x)
    → option_map f o ≡ option_map g o
map-same f g None h = refl
map-same f g (Some x) h = ap Some (h x refl)

-- an entry that keeps the keys keeps the tables
pub keys-kept : (queue_keys set_keys : Numbered Bound) (k next : Kernel) → KeepsKeys k next
    → HasKeys queue_keys set_keys k → HasKeys queue_keys set_keys next
keys-kept queue_keys set_keys k next kept h = record {
  queues = λ key. h.queues key ∙ sym (ap (option_map (λ id. bound_to id 0)) (kept.queues key));
  sets = λ key.
      h.sets key
      ∙ map-same (λ id. bound_to id (set_size k id)) (λ id. bound_to id (set_size next id)) (get k.set_keys key)
      (λ id bound. ap (bound_to id) (sym (kept.sizes key id bound)))
      ∙ sym (ap (option_map (λ id. bound_to id (set_size next id))) (kept.sets key));
}

-- a new queue's key
pub keys-bind-queue : (queue_keys set_keys : Numbered Bound) (k next : Kernel) (key id : ℕ)
    → HasKeys queue_keys set_keys k → next.queue_keys ≡ put k.queue_keys key id
    → next.set_keys ≡ k.set_keys → next.sets ≡ k.sets
    → HasKeys (put queue_keys key (bound_to id 0)) set_keys next
keys-bind-queue queue_keys set_keys k next key id h keys others sets = record {
  queues = λ q.
      elim (cases_eq q key) [
        | inl same ↦
            ap (get (put queue_keys key (bound_to id 0))) same ∙ get-put-same queue_keys key (bound_to id 0)
            ∙ sym (ap (λ m. option_map (λ i. bound_to i 0) (get m q)) keys
            ∙ ap (λ p. option_map (λ i. bound_to i 0) (get (put k.queue_keys key id) p)) same
            ∙ ap (option_map (λ i. bound_to i 0)) (get-put-same k.queue_keys key id))
        | inr other ↦
            get-put-other queue_keys key (bound_to id 0) q other ∙ h.queues q
            ∙ sym (ap (λ m. option_map (λ i. bound_to i 0) (get m q)) keys
            ∙ ap (option_map (λ i. bound_to i 0)) (get-put-other k.queue_keys key id q other))
      ];
  sets = λ q.
      h.sets q
      ∙ map-same (λ i. bound_to i (set_size k i)) (λ i. bound_to i (set_size next i)) (get k.set_keys q)
      (λ i bound. ap (bound_to i) (sym (size-same next k i (ap (λ m. set_body (get m i)) sets))))
      ∙ sym (ap (λ m. option_map (λ i. bound_to i (set_size next i)) (get m q)) others);
}

-- a new set's key, with its size
pub keys-bind-set : (queue_keys set_keys : Numbered Bound) (k next : Kernel) (key id : ℕ) (set : SemaphoreSet)
    → HasKeys queue_keys set_keys k → next.queue_keys ≡ k.queue_keys → next.set_keys ≡ put k.set_keys key id
    → body_in next (Sem id) ≡ ASet (unawaited set)
    → ((other : ℕ) → other ≢ id → body_in next (Sem other) ≡ body_in k (Sem other))
    → ((q other : ℕ) → get k.set_keys q ≡ Some other → other ≢ id)
    → HasKeys queue_keys (put set_keys key (bound_to id (length set.semaphores))) next
keys-bind-set queue_keys set_keys k next key id set h queues keys there others apart = record {
  queues = λ q. h.queues q ∙ sym (ap (λ m. option_map (λ i. bound_to i 0) (get m q)) queues);
  sets = λ q.
      elim (cases_eq q key) [
        | inl same ↦
            ap (get (put set_keys key (bound_to id (length set.semaphores)))) same
            ∙ get-put-same set_keys key (bound_to id (length set.semaphores))
            ∙ ap (λ n. Some (bound_to id n)) (sym (size-of-set next id set there))
            ∙ sym (ap (λ m. option_map (λ i. bound_to i (set_size next i)) (get m q)) keys
            ∙ ap (λ p. option_map (λ i. bound_to i (set_size next i)) (get (put k.set_keys key id) p)) same
            ∙ ap (option_map (λ i. bound_to i (set_size next i))) (get-put-same k.set_keys key id))
        | inr other ↦
            get-put-other set_keys key (bound_to id (length set.semaphores)) q other ∙ h.sets q
            ∙ map-same (λ i. bound_to i (set_size k i)) (λ i. bound_to i (set_size next i)) (get k.set_keys q)
            (λ i bound. ap (bound_to i) (sym (size-same next k i (others i (apart q i bound)))))
            ∙ sym (ap (λ m. option_map (λ i. bound_to i (set_size next i)) (get m q)) keys
            ∙ ap (option_map (λ i. bound_to i (set_size next i))) (get-put-other k.set_keys key id q other))
      ];
}

-- ---- a removal

mapped-kept : (f : ℕ → Bound) (id v : ℕ) (t : Bool) → nat_eq v id ≡ t → ((i : ℕ) → (f i).id ≡ i)
    → (if nat_eq (f v).id id then None else Some (f v)) ≡ option_map f (if t then None else Some v)
mapped-kept f id v true h is =
    ap (λ (b : Bool). if b then None else Some (f v)) (ap (λ i. nat_eq i id) (is v) ∙ h)
mapped-kept f id v false h is =
    ap (λ (b : Bool). if b then None else Some (f v)) (ap (λ i. nat_eq i id) (is v) ∙ h)

mapped-other : (f : ℕ → Bound) (id : ℕ) (o : Option ℕ) → ((i : ℕ) → (f i).id ≡ i)
    → option_and_then (λ (b : Bound). if nat_eq b.id id then None else Some b) (option_map f o)
    ≡ option_map f (option_and_then (other_than id) o)
mapped-other f id None is = refl
mapped-other f id (Some v) is = mapped-kept f id v (nat_eq v id) refl is

-- the table without the keys of what was removed has what the kernel's keys lead to besides
pub table-unbound : (f : ℕ → Bound) (table : Numbered Bound) (removed : Option ℕ) (key : ℕ) (found after : Option ℕ)
    → IsRising table → ((i : ℕ) → (f i).id ≡ i) → get table key ≡ option_map f found
    → after ≡ unless_removed removed found
    → get (without_keys_of removed table) key ≡ option_map f after
table-unbound f table None key found after rises is h same = h ∙ ap (option_map f) (sym same)
table-unbound f table (Some id) key found after rises is h same =
    get-filtered (λ (b : Bound). b.id) id table key rises
    ∙ ap (option_and_then (λ (b : Bound). if nat_eq b.id id then None else Some b)) h
    ∙ mapped-other f id found is
    ∙ ap (option_map f) (sym same)

-- an entry that may remove what keys led to: the tables without these
pub keys-unbound : (queue_keys set_keys : Numbered Bound) (removed_queue removed_set : Option ℕ) (k next : Kernel)
    → IsRising queue_keys → IsRising set_keys → HasKeys queue_keys set_keys k
    → ((key : ℕ) → get next.queue_keys key ≡ unless_removed removed_queue (get k.queue_keys key))
    → ((key : ℕ) → get next.set_keys key ≡ unless_removed removed_set (get k.set_keys key))
    → ((key id : ℕ) → get next.set_keys key ≡ Some id → set_size next id ≡ set_size k id)
    → HasKeys (without_keys_of removed_queue queue_keys) (without_keys_of removed_set set_keys) next
keys-unbound queue_keys set_keys removed_queue removed_set k next rises rises_too h queues sets sizes = record {
  queues = λ key.
      table-unbound (λ id. bound_to id 0) queue_keys removed_queue key (get k.queue_keys key) (get next.queue_keys key)
      rises (λ i. refl) (h.queues key) (queues key);
  sets = λ key.
      table-unbound (λ id. bound_to id (set_size k id)) set_keys removed_set key (get k.set_keys key)
      (get next.set_keys key) rises_too (λ i. refl) (h.sets key) (sets key)
      ∙ map-same (λ id. bound_to id (set_size k id)) (λ id. bound_to id (set_size next id)) (get next.set_keys key)
      (λ id bound. ap (bound_to id) (sym (sizes key id bound)));
}
