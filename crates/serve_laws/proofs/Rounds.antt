-- Whom a call on a body wakes, one after another: each waits there, its call does at once what it is woken with, and
-- the others wait on.
use Rattle.std.proofs.Common.{◌≡◌, ◌⊎◌, ◌<◌, ◌∙◌, ℕ, zero, suc, Bool, true, false, not, ◌||◌, cond, nat_eq, List, [], ◌∷◌, length, map, Option, Some, None, refl, sym, ap, subst, inl, inr, arith}
use Rattle.std.specs.Prelude.{Contains, slice_index_or}
use Rattle.std.specs.List.{filter, list_any}
use Rattle.pico_base.specs.declared.call.Call.{Call}
use Rattle.pico_base.specs.declared.numbers.Name.{Name}
use Rattle.pico_base.specs.declared.reply.Errno.TheVariants.{Eidrm}
use Rattle.pico_base.specs.declared.reply.Reply.TheVariants.{Fail}
use Rattle.number_maps.proofs.Order.{eq-same}
use Rattle.waiting_model.specs.declared.callers.Waiting.{Waiting}
use Rattle.waiting_model.specs.declared.callers.Wake.{Wake}
use Rattle.waiting_model.specs.Calls.{may_park}
use Rattle.waiting_model.specs.Waiters.{Attempt, Awaited, Ready, Settled, Try, awaited, first_ready, ready_behind, ready_or, settle_by, settle_on, wake}
use Rattle.node_model.specs.Bodies.{Body, Removed}
use Rattle.node_model.specs.Serving.{name_for}
use Rattle.serve_laws.specs.Served.{DoesLine, BreaksOff, WaitAt, line}

-- ---- rounds

-- those who wait but for one process
abbrev pub without : ℕ → List Waiting → List Waiting
without pid waiters = filter (λ v. not (nat_eq pid v.pid)) waiters

-- One of those who wait is woken: in line its call is made at once on the part that is left so far, and the rest goes
-- on from there.
pub record WakesOne (name : Name) (now : Body) (waiters : List Waiting) (w : Wake)
    (Rest : Body → List Waiting → Type 0) : Type 0 where
  pub waiter : Waiting
  pub among : Contains waiters waiter
  pub is : w ≡ wake waiter w.reply
  pub parks : may_park waiter.call ≡ true
  pub named : name_for waiter.pid waiter.call ≡ Some name
  pub next : Body
  pub does : DoesLine name now (line waiter.pid waiter.call w.reply) next
  pub rest : Rest next (without waiter.pid waiters)

-- one after another, from a part and those who wait to the last ones
abbrev pub Rounds : Name → Body → List Waiting → List Wake → Body → List Waiting → Type 0
Rounds name now waiters [] last left = (now ≡ last) × (waiters ≡ left)
Rounds name now waiters (w ∷ wakes) last left =
    WakesOne name now waiters w (λ next rest. Rounds name next rest wakes last left)

-- ---- those who wait, without one of them

differ : {B : Type 0} → false ≡ true → B
differ h = absurd (cc)

neither : (a b : Bool) → (a || b) ≡ false → (a ≡ false) × (b ≡ false)
neither true b h = absurd (cc)
neither false b h = (refl, h)

flip : (n m : ℕ) → nat_eq n m ≡ false → nat_eq m n ≡ false
flip n m h = grind arith

pub contains-first : (w : Waiting) (ws : List Waiting) → Contains (w ∷ ws) w
contains-first w ws = (zero, omega arith, refl)

contains-later : (w : Waiting) (ws : List Waiting) (v : Waiting) → Contains ws v → Contains (w ∷ ws) v
contains-later w ws v h = (suc h.0, omega (arith, h.1), h.2)

contains-at : (w : Waiting) (ws : List Waiting) (v : Waiting) (k : ℕ) → k < length (w ∷ ws)
    → slice_index_or (w ∷ ws) k v ≡ v → (w ≡ v) ⊎ Contains ws v
contains-at w ws v zero less is = inl is
contains-at w ws v (suc k) less is = inr (k, omega (arith, less), is)

-- who is among them is the first one, or among the rest
pub contains-cases : (w : Waiting) (ws : List Waiting) (v : Waiting) → Contains (w ∷ ws) v → (w ≡ v) ⊎ Contains ws v
contains-cases w ws v h = contains-at w ws v h.0 h.1 h.2

-- nobody is among none
pub contains-none : (v : Waiting) → Contains [] v → ⊥
contains-none v h = let less : h.0 < 0 = h.1 in absurd (omega arith)

-- all stay where the process isn't among them
none-without : (pid : ℕ) (ws : List Waiting) → list_any (λ v. nat_eq pid v.pid) ws ≡ false → without pid ws ≡ ws
none-without pid [] h = refl
none-without pid (w ∷ ws) h =
    let n = neither (nat_eq pid w.pid) (list_any (λ v. nat_eq pid v.pid) ws) h
    in rw (n.0, none-without pid ws n.1) refl

pub first-without : (w : Waiting) (ws : List Waiting) → list_any (λ v. nat_eq w.pid v.pid) ws ≡ false
    → without w.pid (w ∷ ws) ≡ ws
first-without w ws h = rw (eq-same w.pid) (none-without w.pid ws h)

later-without : (pid : ℕ) (w : Waiting) (ws : List Waiting) → nat_eq pid w.pid ≡ false
    → without pid (w ∷ ws) ≡ w ∷ without pid ws
later-without pid w ws h = rw h refl

-- whoever is among fewer is among them
pub contains-without : (pid : ℕ) (ws : List Waiting) (v : Waiting) → Contains (without pid ws) v → Contains ws v
contains-without pid [] v h = h
contains-without pid (w ∷ ws) v h = by (nat_eq pid w.pid) h (λ among. contains-without pid ws v among)
  where
    by : (b : Bool) → Contains (cond (not b) (w ∷ without pid ws) (without pid ws)) v
        → (Contains (without pid ws) v → Contains ws v) → Contains (w ∷ ws) v
    by true among rest = contains-later w ws v (rest among)
    by false among rest =
        elim (contains-cases w (without pid ws) v among) [
          | inl first ↦ subst (λ (u : Waiting). Contains (w ∷ ws) u) first (contains-first w ws)
          | inr later ↦ contains-later w ws v (rest later)
        ]

-- who isn't among them isn't among fewer
none-among-fewer : (p pid : ℕ) (ws : List Waiting) → list_any (λ v. nat_eq p v.pid) ws ≡ false
    → list_any (λ v. nat_eq p v.pid) (without pid ws) ≡ false
none-among-fewer p pid [] h = refl
none-among-fewer p pid (w ∷ ws) h =
    let n = neither (nat_eq p w.pid) (list_any (λ v. nat_eq p v.pid) ws) h
    in by (nat_eq pid w.pid) n.0 (none-among-fewer p pid ws n.1)
  where
    by : (b : Bool) → nat_eq p w.pid ≡ false → list_any (λ v. nat_eq p v.pid) (without pid ws) ≡ false
        → list_any (λ v. nat_eq p v.pid) (cond (not b) (w ∷ without pid ws) (without pid ws)) ≡ false
    by true first rest = rest
    by false first rest = rw (first, rest) refl

-- and fewer wait there rightly, too
pub fewer-wait : (name : Name) (pid : ℕ) (ws : List Waiting) → WaitAt name ws → WaitAt name (without pid ws)
fewer-wait name pid [] h = tt
fewer-wait name pid (w ∷ ws) h = by (nat_eq pid w.pid) (fewer-wait name pid ws h.3)
  where
    by : (b : Bool) → WaitAt name (without pid ws)
        → WaitAt name (cond (not b) (w ∷ without pid ws) (without pid ws))
    by true rest = rest
    by false rest = (h.0, h.1, none-among-fewer w.pid pid ws h.2, rest)

-- who isn't among them is another than one of them
pub one-apart : (p : ℕ) (ws : List Waiting) (v : Waiting) → list_any (λ v. nat_eq p v.pid) ws ≡ false → Contains ws v
    → nat_eq p v.pid ≡ false
one-apart p [] v h among = absurd (contains-none v among)
one-apart p (w ∷ ws) v h among =
    let n = neither (nat_eq p w.pid) (list_any (λ u. nat_eq p u.pid) ws) h
    in elim (contains-cases w ws v among) [
      | inl first ↦ ap (λ (u : Waiting). nat_eq p u.pid) (sym first) ∙ n.0
      | inr later ↦ one-apart p ws v n.1 later
    ]

-- one of them by itself
pub one-waits : (name : Name) (ws : List Waiting) (v : Waiting) → WaitAt name ws → Contains ws v
    → (may_park v.call ≡ true) × (name_for v.pid v.call ≡ Some name)
one-waits name [] v h among = absurd (contains-none v among)
one-waits name (w ∷ ws) v h among =
    elim (contains-cases w ws v among) [
      | inl first ↦
          subst (λ (u : Waiting). (may_park u.call ≡ true) × (name_for u.pid u.call ≡ Some name)) first (h.0, h.1)
      | inr later ↦ one-waits name ws v h.3 later
    ]

-- ---- the first who is ready

module _ {T : Type 0} (try : Try T) (state : T) (name : Name) where
  -- its try gives a reply, and the others wait on
  pub record IsFirst (ws : List Waiting) (r : Ready T) : Type 0 where
    pub among : Contains ws r.waiter
    pub goes : try state r.waiter.pid r.waiter.call ≡ Some r.attempt
    pub others : r.others ≡ without r.waiter.pid ws

  is-first-here : (w : Waiting) (ws : List Waiting) (a : Attempt T) → try state w.pid w.call ≡ Some a
      → list_any (λ v. nat_eq w.pid v.pid) ws ≡ false
      → IsFirst (w ∷ ws) (record { waiter = w; attempt = a; others = ws })
  is-first-here w ws a goes once = record {
    among = contains-first w ws;
    goes = goes;
    others = sym (first-without w ws once);
  }

  is-first-behind : (w : Waiting) (ws : List Waiting) (r : Ready T)
      → list_any (λ v. nat_eq w.pid v.pid) ws ≡ false → IsFirst ws r → IsFirst (w ∷ ws) (ready_behind w r)
  is-first-behind w ws r once f =
      let apart : nat_eq r.waiter.pid w.pid ≡ false = flip w.pid r.waiter.pid (one-apart w.pid ws r.waiter once f.among)
      in record {
        among = contains-later w ws r.waiter f.among;
        goes = f.goes;
        others = ap (λ (vs : List Waiting). w ∷ vs) f.others ∙ sym (later-without r.waiter.pid w ws apart);
      }

  some-same : {A : Type 0} (x y : A) → Some x ≡ Some y → x ≡ y
  some-same x y h = cc

  first-is : (ws : List Waiting) (r : Ready T) → WaitAt name ws → first_ready try state ws ≡ Some r → IsFirst ws r
  first-is [] r h is = absurd (cc)
  first-is (w ∷ ws) r h is =
      by (try state w.pid w.call) (first_ready try state ws) refl (λ v rest. first-is ws v h.3 rest) is
    where
      by : (o : Option (Attempt T)) (later : Option (Ready T)) → try state w.pid w.call ≡ o
          → ((v : Ready T) → later ≡ Some v → IsFirst ws v) → ready_or w ws o later ≡ Some r → IsFirst (w ∷ ws) r
      by (Some a) later goes rest found =
          subst (IsFirst (w ∷ ws)) (some-same _ r found) (is-first-here w ws a goes h.2)
      by None None goes rest found = absurd (cc)
      by None (Some v) goes rest found =
          subst (IsFirst (w ∷ ws)) (some-same (ready_behind w v) r found)
          (is-first-behind w ws v h.2 (rest v refl))

-- ---- settling, in rounds

module _ {T : Type 0} (try : Try T) (name : Name) (part : T → Body)
    (does : (state : T) (pid : ℕ) (call : Call) (a : Attempt T) → may_park call ≡ true
    → name_for pid call ≡ Some name → try state pid call ≡ Some a
    → DoesLine name (part state) (line pid call a.reply) (part a.state)) where
  -- from a queue or a set to what is left of it
  abbrev pub GoesOn : Awaited T → Settled T → Type 0
  GoesOn o s = Rounds name (part o.state) o.waiters s.wakes (part s.object.state) s.object.waiters

  one-round : (o : Awaited T) (r : Ready T) (rest : Awaited T → Settled T) → WaitAt name o.waiters
      → IsFirst try o.state name o.waiters r
      → GoesOn (awaited r.attempt.state (without r.waiter.pid o.waiters)) (rest (awaited r.attempt.state r.others))
      → GoesOn o (settle_on o (Some r) rest)
  one-round o r rest h f go =
      let w = one-waits name o.waiters r.waiter h f.among
      in record {
        waiter = r.waiter;
        among = f.among;
        is = refl;
        parks = w.0;
        named = w.1;
        next = part r.attempt.state;
        does = does o.state r.waiter.pid r.waiter.call r.attempt w.0 w.1 f.goes;
        rest = go;
      }

  -- as long as somebody is ready
  pub settles-in-rounds : (n : ℕ) (o : Awaited T) → WaitAt name o.waiters → GoesOn o (settle_by n try o)
  settles-in-rounds zero o h = (refl, refl)
  settles-in-rounds (suc n) o h =
      by (first_ready try o.state o.waiters) (λ r is. first-is try o.state name o.waiters r h is)
      (λ next wait. settles-in-rounds n next wait)
    where
      by : (found : Option (Ready T)) → ((r : Ready T) → found ≡ Some r → IsFirst try o.state name o.waiters r)
          → ((next : Awaited T) → WaitAt name next.waiters → GoesOn next (settle_by n try next))
          → GoesOn o (settle_on o found (settle_by n try))
      by None first go = (refl, refl)
      by (Some r) first go =
          let f : IsFirst try o.state name o.waiters r = first r refl
          in one-round o r (settle_by n try) h f
          (subst (λ (ws : List Waiting).
          GoesOn (awaited r.attempt.state ws) (settle_by n try (awaited r.attempt.state r.others))) f.others
          (go (awaited r.attempt.state r.others)
          (subst (WaitAt name) (sym f.others) (fewer-wait name r.waiter.pid o.waiters h))))

-- ---- a removal, in rounds

-- whoever waits is woken, and nothing is done
pub all-broken-off : (name : Name) (ws : List Waiting) → WaitAt name ws
    → Rounds name Removed ws (map (λ w. wake w (Fail Eidrm)) ws) Removed []
all-broken-off name [] h = (refl, refl)
all-broken-off name (w ∷ ws) h = record {
  waiter = w;
  among = contains-first w ws;
  is = refl;
  parks = h.0;
  named = h.1;
  next = Removed;
  does = BreaksOff h.0 refl refl;
  rest = subst (λ (vs : List Waiting). Rounds name Removed vs (map (λ v. wake v (Fail Eidrm)) ws) Removed [])
      (sym (first-without w ws h.2)) (all-broken-off name ws h.3);
}
