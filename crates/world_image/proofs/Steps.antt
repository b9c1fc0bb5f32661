-- Stepping through events, one after the other.
use Rattle.std.proofs.Common.{◌≡◌, ℕ, ◌+◌, ◌<◌, ◌≤◌, Bool, true, false, List, [], ◌∷◌, length, drop, get_or, Option, Some, None, IfSome, IsSome, refl, sym, ap, subst, ◌∙◌}
use Rattle.std.specs.Prelude.{Ok, Err}
use Rattle.std.proofs.lemmas.List.{drop_more, drop_all}
use Rattle.stamp_merge.specs.declared.Stamped.{Stamped}
use Rattle.world_model.specs.World.{World, is_enabled, step}
use Rattle.world_core.specs.Stepped.{IsStepped}
use Rattle.image_text.specs.declared.placed.Placed.{Placed}
use Rattle.image_text.specs.declared.fault.ImageStop.{ImageStop}
use Rattle.image_text.specs.Gives.{Stops}
use Rattle.world_image.specs.Thawing.{Outcome, not_enabled, behind, Leads}

-- the world now, from which what is left gives what is wanted
pub record IsOnTheWay (wanted : Outcome) (events : List (Stamped Placed)) (i : ℕ) (world : Option World)
    (last : Option ℕ) : Type 0 where
  pub now : World
  pub is_now : world ≡ Some now
  pub left : behind now last (drop i events) ≡ wanted

module _ (wanted : Outcome) (events : List (Stamped Placed)) (i : ℕ) (world : Option World) (last : Option ℕ)
    (h : IsOnTheWay wanted events i world last) where
  pub still-whole : IsSome world
  still-whole = subst IsSome (sym h.is_now) refl

  pub at-end : length events ≤ i → IfSome world (λ w. wanted ≡ Ok (w, last))
  unfolding behind
  at-end le =
      subst (λ (o : Option World). IfSome o (λ w. wanted ≡ Ok (w, last))) (sym h.is_now)
      (sym h.left ∙ ap (behind h.now last) (drop_all i events le))

  module _ (e : Stamped Placed) (lt : i < length events) (is : e ≡ get_or events i e) where
    split : drop i events ≡ e ∷ drop (i + 1) events
    split = drop_more events i e lt ∙ ap (λ (x : Stamped Placed). x ∷ drop (i + 1) events) (sym is)

    -- the next event may come, or may not
    pub enabled-next : IfSome world (λ w. is_enabled w e.item.event ≡ true) → is_enabled h.now e.item.event ≡ true
    enabled-next g = subst (λ (o : Option World). IfSome o (λ w. is_enabled w e.item.event ≡ true)) h.is_now g

    pub stops-there : is_enabled h.now e.item.event ≡ false → wanted ≡ Err (not_enabled e.item.line)
    unfolding behind
    stops-there never = sym h.left ∙ ap (behind h.now last) split ∙ rw never refl

    pub goes-on : (next : Option World) → is_enabled h.now e.item.event ≡ true → IsStepped world e.item.event next
        → IsOnTheWay wanted events (i + 1) next (Some e.node)
    unfolding behind
    goes-on next may stepped =
        let same : stepped.0 ≡ h.now = (let a = stepped.2 in let b = h.is_now in cc) in
        let taken : step h.now e.item.event ≡ Some stepped.1 =
        ap (λ (w : World). step w e.item.event) (sym same) ∙ stepped.4 in
        record {
          now = stepped.1;
          is_now = stepped.3;
          left = sym (ap (behind h.now last) split ∙ rw (may, taken) refl) ∙ h.left;
        }

-- ---- the loop

if-both : {A : Type 0} (o : Option A) (P Q : A → Type 0) → IfSome o P → ((x : A) → P x → Q x) → IfSome o Q
if-both None P Q h f = tt
if-both (Some x) P Q h f = f x h

-- from the world at the start
abbrev pub IsGoing : Option World → List (Stamped Placed) → ℕ → Option World → Option ℕ → Type 0
IsGoing start events i world last = IfSome start (λ w. IsOnTheWay (behind w None events) events i world last)

module _ (start : Option World) (events : List (Stamped Placed)) (i : ℕ) (world : Option World) (last : Option ℕ)
    (h : IsGoing start events i world last) where
  -- all events were carried out
  pub leads-there : length events ≤ i → IfSome start (λ w. Leads (Ok last) world (behind w None events))
  leads-there le =
      if-both start _ (λ w. Leads (Ok last) world (behind w None events)) h (λ w there. (
        still-whole (behind w None events) events i world last there,
        at-end (behind w None events) events i world last there le,
      ))

  module _ (e : Stamped Placed) (lt : i < length events) (is : e ≡ get_or events i e) (answer : Bool)
      (told : IfSome world (λ w. answer ≡ is_enabled w e.item.event)) where
    here : (now : World) → world ≡ Some now → answer ≡ is_enabled now e.item.event
    here now is_now = subst (λ (o : Option World). IfSome o (λ w. answer ≡ is_enabled w e.item.event)) is_now told

    -- the next one may not come
    pub stops-here : (stop : ImageStop) → answer ≡ false → stop ≡ not_enabled e.item.line
        → IfSome start (λ w. Leads (Err stop) world (behind w None events))
    stops-here stop never at =
        if-both start _ (λ w. Leads (Err stop) world (behind w None events)) h (λ w there.
        subst (λ (s : ImageStop). Stops s (behind w None events)) (sym at)
        (stops-there (behind w None events) events i world last there e lt is
        (sym (here there.now there.is_now) ∙ never)))

    -- the next one was carried out
    pub goes-further : (next : Option World) → answer ≡ true → IsStepped world e.item.event next
        → IsGoing start events (i + 1) next (Some e.node)
    goes-further next may stepped =
        if-both start _ (λ w. IsOnTheWay (behind w None events) events (i + 1) next (Some e.node)) h (λ w there.
        goes-on (behind w None events) events i world last there e lt is next
        (sym (here there.now there.is_now) ∙ may) stepped)
