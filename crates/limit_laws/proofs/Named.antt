-- What holds of each name's value in a map from names, and of each kind's in a value for each.
use Rattle.std.proofs.Common.{◌≡◌, Option, Some, None, ℕ, true, not, nat_eq, refl, ◌≤◌, List, ◌+◌, [], ◌∷◌, is_some, zero, suc, arith}
use Rattle.std.proofs.lemmas.Bool.{false≢true}
use Rattle.std.specs.List.{AllByRecursion, range_with_len}
use Rattle.limit_laws.proofs.Served.{family-more, filtered-is-short}
use Rattle.limit_laws.proofs.Tables.{all-put, all-get, all-without}
use Rattle.limit_laws.specs.Bodies.{IsAwaitedWithin, IsWaiterWithin}
use Rattle.limit_laws.specs.Within.{IsDeedWithin, AreDeedsWithin, IsBodyWithin, AllNamed}
use Rattle.node_model.specs.Bodies.{Body, Living, Ended, Gone, Deeds, AQueue, ASet, Removed}
use Rattle.node_model.specs.Kinds.{Named, for_kind, number_of, get_named, put_named, with_kind, none_named, put_all, without_named, PerKind}
use Rattle.node_model.specs.Serving.{body_without, without_caller}
use Rattle.number_maps.proofs.Rising.{rising-nothing, rising-put, rising-filter}
use Rattle.number_maps.specs.Rising.{IsRising}
use Rattle.pico_base.specs.declared.numbers.Kind.TheVariants as kinds
use Rattle.pico_base.specs.declared.numbers.Kind.{Kind}
use Rattle.pico_base.specs.declared.numbers.Name.TheVariants.{Proc, Msg, Sem}
use Rattle.pico_base.specs.declared.numbers.Name.{Name}
use Rattle.kernel_laws.proofs.Lists.{all-filtered, all-more}
use Rattle.waiter_fields.specs.Settling.{is_waiter}
use Rattle.waiting_model.specs.Waiters.{Awaited}
use Rattle.waiting_model.specs.declared.callers.Waiting.{Waiting}

module _ {V : Type 0} (P : Name → V → Type 0) where
  -- it holds of a map without names
  pub named-none : AllNamed P none_named
  named-none = record { processes = tt; queues = tt; sets = tt }

  -- what a map has for a name,
  pub named-get : (m : Named V) (name : Name) (v : V) → AllNamed P m → get_named m name ≡ Some v → P name v
  named-get m (Proc n) v all is = all-get (λ (e : ℕ × V). P (Proc e.0) e.1) m.processes n v all.processes is
  named-get m (Msg n) v all is = all-get (λ (e : ℕ × V). P (Msg e.0) e.1) m.queues n v all.queues is
  named-get m (Sem n) v all is = all-get (λ (e : ℕ × V). P (Sem e.0) e.1) m.sets n v all.sets is

  -- what is put there,
  pub named-put : (m : Named V) (name : Name) (v : V) → AllNamed P m → P name v → AllNamed P (put_named m name v)
  named-put m (Proc n) v all own =
      record {
        processes = all-put (λ (e : ℕ × V). P (Proc e.0) e.1) m.processes n v own all.processes;
        queues = all.queues;
        sets = all.sets;
      }
  named-put m (Msg n) v all own =
      record {
        processes = all.processes;
        queues = all-put (λ (e : ℕ × V). P (Msg e.0) e.1) m.queues n v own all.queues;
        sets = all.sets;
      }
  named-put m (Sem n) v all own =
      record {
        processes = all.processes;
        queues = all.queues;
        sets = all-put (λ (e : ℕ × V). P (Sem e.0) e.1) m.sets n v own all.sets;
      }

  -- and what is taken away.
  pub named-without : (m : Named V) (name : Name) → AllNamed P m → AllNamed P (without_named m name)
  named-without m (Proc n) all =
      record {
        processes = all-without (λ (e : ℕ × V). P (Proc e.0) e.1) m.processes n all.processes;
        queues = all.queues;
        sets = all.sets;
      }
  named-without m (Msg n) all =
      record {
        processes = all.processes;
        queues = all-without (λ (e : ℕ × V). P (Msg e.0) e.1) m.queues n all.queues;
        sets = all.sets;
      }
  named-without m (Sem n) all =
      record {
        processes = all.processes;
        queues = all.queues;
        sets = all-without (λ (e : ℕ × V). P (Sem e.0) e.1) m.sets n all.sets;
      }

-- a value for each kind, one of which is another one
pub kind-put : {A : Type 0} (P : A → Type 0) (m : PerKind A) (kind : Kind) (x : A) → P x
    → ((k : Kind) → P (for_kind m k)) → (k : Kind) → P (for_kind (with_kind m kind x) k)
kind-put P m kinds.Proc x own all kinds.Proc = own
kind-put P m kinds.Proc x own all kinds.Msg = all kinds.Msg
kind-put P m kinds.Proc x own all kinds.Sem = all kinds.Sem
kind-put P m kinds.Msg x own all kinds.Proc = all kinds.Proc
kind-put P m kinds.Msg x own all kinds.Msg = own
kind-put P m kinds.Msg x own all kinds.Sem = all kinds.Sem
kind-put P m kinds.Sem x own all kinds.Proc = all kinds.Proc
kind-put P m kinds.Sem x own all kinds.Msg = all kinds.Msg
kind-put P m kinds.Sem x own all kinds.Sem = own

-- numbers from one on that is at least 1 are at least 1
pub numbers-from : (first count : ℕ) → 1 ≤ first → AllByRecursion (λ (n : ℕ). 1 ≤ n) (range_with_len first count)
numbers-from first zero low = tt
numbers-from first (suc count) low = (low, numbers-from (first + 1) count (omega (arith, low)))

-- ---- deeds

module _ (own most : ℕ) where
  abbrev Deed : Name → Body → Type 0
  Deed name body = IsDeedWithin own most name body

  -- a deed more,
  pub deeds-put : (deeds : Deeds) (name : Name) (body : Body) → AreDeedsWithin own most deeds → Deed name body
      → AreDeedsWithin own most (put_named deeds name body)
  deeds-put deeds name body all h =
      record { rising = rises name; each = named-put Deed deeds name body all.each h }
    where
      rises : (n : Name) → IsRising (put_named deeds n body).processes
      rises (Proc pid) = rising-put deeds.processes pid body all.rising
      rises (Msg id) = all.rising
      rises (Sem id) = all.rising

  -- a deed less,
  pub deeds-without : (deeds : Deeds) (name : Name) → AreDeedsWithin own most deeds
      → AreDeedsWithin own most (without_named deeds name)
  deeds-without deeds name all = record { rising = rises name; each = named-without Deed deeds name all.each }
    where
      rises : (n : Name) → IsRising (without_named deeds n).processes
      rises (Proc pid) = rising-filter (λ e. not (nat_eq pid e.0)) deeds.processes all.rising
      rises (Msg id) = all.rising
      rises (Sem id) = all.rising

  -- none,
  pub deeds-none : AreDeedsWithin own most none_named
  deeds-none = record { rising = rising-nothing Body; each = named-none Deed }

  -- several more,
  abbrev pub AreChangesWithin : List (Name × Body) → Type 0
  AreChangesWithin changes = AllByRecursion (λ (p : Name × Body). Deed p.0 p.1) changes

  -- as many as there are,
  pub deeds-put-all : (changes : List (Name × Body)) (deeds : Deeds) → AreDeedsWithin own most deeds
      → AreChangesWithin changes → AreDeedsWithin own most (put_all deeds changes)
  deeds-put-all [] deeds all h = all
  deeds-put-all (pair ∷ pairs) deeds all h =
      deeds-put-all pairs (put_named deeds pair.0 pair.1) (deeds-put deeds pair.0 pair.1 all h.0) h.1

  -- and what there is of a name.
  pub deeds-get : (deeds : Deeds) (name : Name) (body : Body) → AreDeedsWithin own most deeds
      → get_named deeds name ≡ Some body → Deed name body
  deeds-get deeds name body all is = named-get Deed deeds name body all.each is

  -- A name whose deed is held has a number.
  pub held-is-numbered : (deeds : Deeds) (name : Name) → AreDeedsWithin own most deeds
      → is_some (get_named deeds name) ≡ true → 1 ≤ number_of name
  held-is-numbered deeds name all h = by (get_named deeds name) refl h
    where
      by : (o : Option Body) → get_named deeds name ≡ o → is_some o ≡ true → 1 ≤ number_of name
      by None is g = absurd (false≢true g)
      by (Some body) is g = (deeds-get deeds name body all is).0

-- A body stays within the limits where more children may be.
body-more : (own most more : ℕ) (name : Name) (body : Body) → most ≤ more → IsBodyWithin own most name body
    → IsBodyWithin own more name body
body-more own most more (Proc pid) (Living row) le h = (h.0, family-more most more row.family le h.1)
body-more own most more (Proc pid) (Ended ending) le h = tt
body-more own most more (Proc pid) Gone le h = tt
body-more own most more (Proc pid) (AQueue q) le h = absurd h
body-more own most more (Proc pid) (ASet s) le h = absurd h
body-more own most more (Proc pid) Removed le h = absurd h
body-more own most more (Msg id) (AQueue q) le h = h
body-more own most more (Msg id) Removed le h = tt
body-more own most more (Msg id) (Living row) le h = absurd h
body-more own most more (Msg id) (Ended ending) le h = absurd h
body-more own most more (Msg id) Gone le h = absurd h
body-more own most more (Msg id) (ASet s) le h = absurd h
body-more own most more (Sem id) (ASet s) le h = h
body-more own most more (Sem id) Removed le h = tt
body-more own most more (Sem id) (Living row) le h = absurd h
body-more own most more (Sem id) (Ended ending) le h = absurd h
body-more own most more (Sem id) Gone le h = absurd h
body-more own most more (Sem id) (AQueue q) le h = absurd h

-- deeds, too
pub deeds-more : (own most more : ℕ) (deeds : Deeds) → most ≤ more → AreDeedsWithin own most deeds
    → AreDeedsWithin own more deeds
deeds-more own most more deeds le all =
    record {
      rising = all.rising;
      each = record {
        processes = all-more (λ (e : ℕ × Body). IsDeedWithin own most (Proc e.0) e.1)
            (λ (e : ℕ × Body). IsDeedWithin own more (Proc e.0) e.1) deeds.processes
            (λ e h. (h.0, body-more own most more (Proc e.0) e.1 le h.1)) all.each.processes;
        queues = all-more (λ (e : ℕ × Body). IsDeedWithin own most (Msg e.0) e.1)
            (λ (e : ℕ × Body). IsDeedWithin own more (Msg e.0) e.1) deeds.queues
            (λ e h. (h.0, body-more own most more (Msg e.0) e.1 le h.1)) all.each.queues;
        sets = all-more (λ (e : ℕ × Body). IsDeedWithin own most (Sem e.0) e.1)
            (λ (e : ℕ × Body). IsDeedWithin own more (Sem e.0) e.1) deeds.sets
            (λ e h. (h.0, body-more own most more (Sem e.0) e.1 le h.1)) all.each.sets;
      };
    }

-- ---- a waiter less

one-less-within : {T : Type 0} {IsLike : T → Type 0} (object : Awaited T) (pid ticket : ℕ)
    → IsAwaitedWithin IsLike object → IsAwaitedWithin IsLike (without_caller pid ticket object)
one-less-within object pid ticket k =
    let few = k.waiters.few
    in let fewer = filtered-is-short (λ (w : Waiting). not (is_waiter pid ticket w)) object.waiters
    in record {
      state = k.state;
      waiters = record {
        few = omega (arith, few, fewer);
        each = all-filtered IsWaiterWithin (λ w. not (is_waiter pid ticket w)) object.waiters k.waiters.each;
      };
    }

-- A body stays within the limits where one doesn't wait any more.
pub without-caller-within : (own most : ℕ) (name : Name) (body : Body) (pid ticket : ℕ)
    → IsBodyWithin own most name body → IsBodyWithin own most name (body_without pid ticket body)
without-caller-within own most (Msg id) (AQueue q) pid ticket h = one-less-within q pid ticket h
without-caller-within own most (Sem id) (ASet s) pid ticket h = one-less-within s pid ticket h
without-caller-within own most (Proc n) (AQueue q) pid ticket h = absurd h
without-caller-within own most (Proc n) (ASet s) pid ticket h = absurd h
without-caller-within own most (Msg id) (ASet s) pid ticket h = absurd h
without-caller-within own most (Sem id) (AQueue q) pid ticket h = absurd h
without-caller-within own most name (Living row) pid ticket h = h
without-caller-within own most name (Ended ending) pid ticket h = h
without-caller-within own most name Gone pid ticket h = h
without-caller-within own most name Removed pid ticket h = h
