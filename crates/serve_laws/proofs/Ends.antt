-- The end of a process, carried out on deeds, against the kernel's.
use Rattle.std.proofs.Common.{◌≡◌, ◌∙◌, ℕ, Bool, true, false, ◌&&◌, ◌||◌, nat_eq, List, [], ◌∷◌, map, Option, Some, None, is_some, is_none, refl, sym, ap, subst, arith}
use Rattle.std.specs.Prelude.{suc, Contains}
use Rattle.std.specs.List.{list_all}
use Rattle.std.specs.Option.{option_and_then}
use Rattle.pico_base.specs.declared.call.Call.{Call}
use Rattle.pico_base.specs.declared.numbers.Name.{Name}
use Rattle.pico_base.specs.declared.numbers.Name.TheVariants.{Proc, Msg, Sem}
use Rattle.pico_base.specs.declared.reply.Ending.{Ending}
use Rattle.pico_base.specs.declared.reply.EndedChild.{EndedChild}
use Rattle.pico_base.specs.declared.reply.Outcome.{Outcome}
use Rattle.pico_base.specs.declared.reply.Reply.TheVariants as replies
use Rattle.rpc_frame.specs.declared.deed.Parcel.{Parcel}
use Rattle.number_maps.specs.Maps.{Numbered, get, put, is_used}
use Rattle.number_maps.proofs.LookUps.{get-put-same, get-put-apart}
use Rattle.number_maps.proofs.Order.{same-from-nat_eq}
use Rattle.number_maps.proofs.Changes.{is_used-keys}
use Rattle.kernel_model.specs.Row.{Row, ended_child}
use Rattle.kernel_model.specs.Kernel.{Kernel, alive_in, living_at}
use Rattle.kernel_model.specs.Effect.{reply_alone}
use Rattle.kernel_model.specs.ProcessCalls.{end_process}
use Rattle.node_model.specs.Kinds.{get_named, put_all}
use Rattle.node_model.specs.Bodies.{Body, Living, Ended, Gone, AQueue, ASet, Removed, Deeds, body_in, queue_body, set_body}
use Rattle.node_model.specs.Parcels.{are_rising, ending_of, fits_bodies, has_own_row, is_held_none, is_over_but_for, may_end_with}
use Rattle.serve_laws.specs.Ends.{EndsAreTheKernels, IsEnded, concerns, is_among, is_brought}
use Rattle.serve_laws.proofs.Puts.{put_each, each-in, each-out, neither}
use Rattle.serve_laws.proofs.Committed.{committed, kept_under, parent_after, processes_after}
use Rattle.serve_laws.proofs.KernelEnds.{HasEnded, ended-by, ends-under, kept_by, kept_by-dead, left_by, lives-as, not-living}

-- ---- the deeds afterwards, at each name

record AreAfter (deeds after : Deeds) (pid parent : ℕ) (pids : List ℕ) (kept left : Body) : Type 0 where
  pub own : get_named after (Proc pid) ≡ Some kept
  pub its : get_named after (Proc parent) ≡ Some left
  pub children : (q : ℕ) → nat_eq q pid ≡ false → nat_eq q parent ≡ false → is_used pids q ≡ true
      → get_named after (Proc q) ≡ Some Gone
  pub others : (q : ℕ) → nat_eq q pid ≡ false → nat_eq q parent ≡ false → is_used pids q ≡ false
      → get_named after (Proc q) ≡ get_named deeds (Proc q)
  pub queues : after.queues ≡ deeds.queues
  pub sets : after.sets ≡ deeds.sets

module _ (deeds : Deeds) (pid parent : ℕ) (pids : List ℕ) (ending : Ending) where
  abbrev gone : Numbered Body
  gone = put_each Gone deeds.processes pids

  after-living : (row : Row) → nat_eq pid parent ≡ false
      → AreAfter deeds
      (record deeds { processes = processes_after deeds.processes pids pid parent (Living row) ending })
      pid parent pids (kept_under row ending) (parent_after row pid ending)
  after-living row apart =
      let kept : Body = kept_under row ending
      in let left : Body = parent_after row pid ending
      in record {
        own = get-put-apart (put gone pid kept) parent pid left apart ∙ get-put-same gone pid kept;
        its = get-put-same (put gone pid kept) parent left;
        children = λ q ne np used.
            get-put-apart (put gone pid kept) parent q left np ∙ get-put-apart gone pid q kept ne
            ∙ each-in Gone deeds.processes pids q used;
        others = λ q ne np unused.
            get-put-apart (put gone pid kept) parent q left np ∙ get-put-apart gone pid q kept ne
            ∙ each-out Gone deeds.processes pids q unused;
        queues = refl;
        sets = refl;
      }

  after-over : (body : Body) → get_named deeds (Proc parent) ≡ Some body → nat_eq parent pid ≡ false
      → is_used pids parent ≡ false
      → AreAfter deeds (record deeds { processes = put gone pid Gone }) pid parent pids Gone body
  after-over body held apart unused =
      record {
        own = get-put-same gone pid Gone;
        its = get-put-apart gone pid parent Gone apart ∙ each-out Gone deeds.processes pids parent unused ∙ held;
        children = λ q ne np used. get-put-apart gone pid q Gone ne ∙ each-in Gone deeds.processes pids q used;
        others = λ q ne np not. get-put-apart gone pid q Gone ne ∙ each-out Gone deeds.processes pids q not;
        queues = refl;
        sets = refl;
      }

  after-end : (body : Body) → get_named deeds (Proc parent) ≡ Some body → nat_eq pid parent ≡ false
      → nat_eq parent pid ≡ false → is_used pids parent ≡ false
      → AreAfter deeds (record deeds { processes = processes_after deeds.processes pids pid parent body ending }) pid
      parent pids (kept_by body ending) (left_by body pid ending)
  after-end (Living row) held apart off unused = after-living row apart
  after-end (Ended e) held apart off unused = after-over (Ended e) held off unused
  after-end Gone held apart off unused = after-over Gone held off unused
  after-end (AQueue q) held apart off unused = after-over (AQueue q) held off unused
  after-end (ASet s) held apart off unused = after-over (ASet s) held off unused
  after-end Removed held apart off unused = after-over Removed held off unused

-- ---- both together

differ : {B : Type 0} → false ≡ true → B
differ h = absurd (cc)

module _ (k next : Kernel) (deeds after : Deeds) (parcel : Parcel) (bodies : Numbered Body) (row : Row)
    (kept left : Body) (outcome : Outcome) (outcome_is : outcome ≡ reply_alone replies.Ended)
    (kernels : HasEnded k next parcel.pid parcel.parent row.family.ended kept left)
    (held : AreAfter deeds after parcel.pid parcel.parent (map (λ e. e.0) bodies) kept left)
    (brought : (q : ℕ) → is_among row.family.ended q ≡ true → is_used (map (λ e. e.0) bodies) q ≡ true) where
  abbrev pids : List ℕ
  pids = map (λ e. e.0) bodies

  here : (q : ℕ) (a b : Bool) → nat_eq q parcel.pid ≡ a → nat_eq q parcel.parent ≡ b
      → (a || (b || is_among row.family.ended q)) ≡ true → get_named after (Proc q) ≡ Some (body_in next (Proc q))
  here q true b own its h =
      subst (λ (n : ℕ). get_named after (Proc n) ≡ Some (body_in next (Proc n)))
      (sym (same-from-nat_eq q parcel.pid own))
      (held.own ∙ ap Some (sym kernels.own))
  here q false true own its h =
      subst (λ (n : ℕ). get_named after (Proc n) ≡ Some (body_in next (Proc n)))
      (sym (same-from-nat_eq q parcel.parent its))
      (held.its ∙ ap Some (sym kernels.its))
  here q false false own its h =
      held.children q own its (brought q h) ∙ ap Some (sym (kernels.children q own its h))

  concerned : (name : Name) → concerns row parcel name ≡ true → get_named after name ≡ Some (body_in next name)
  concerned (Proc q) h = here q (nat_eq q parcel.pid) (nat_eq q parcel.parent) refl refl h
  concerned (Msg i) h = differ h
  concerned (Sem i) h = differ h

  record IsNone (q : ℕ) : Type 0 where
    pub own : nat_eq q parcel.pid ≡ false
    pub its : nat_eq q parcel.parent ≡ false
    pub among : is_among row.family.ended q ≡ false

  is-none : (q : ℕ) → concerns row parcel (Proc q) ≡ false → IsNone q
  is-none q h =
      let first = neither (nat_eq q parcel.pid) (nat_eq q parcel.parent || is_among row.family.ended q) h
      in let rest = neither (nat_eq q parcel.parent) (is_among row.family.ended q) first.1
      in record { own = first.0; its = rest.0; among = rest.1 }

  others : (name : Name) → concerns row parcel name ≡ false → body_in next name ≡ body_in k name
  others (Proc q) h = let n = is-none q h in kernels.others q n.own n.its n.among
  others (Msg i) h = ap (λ m. queue_body (get m i)) kernels.queues
  others (Sem i) h = ap (λ m. set_body (get m i)) kernels.sets

  stay : (name : Name) → concerns row parcel name ≡ false → is_brought bodies name ≡ false
      → get_named after name ≡ get_named deeds name
  stay (Proc q) h not =
      let n = is-none q h in held.others q n.own n.its (is_used-keys bodies q ∙ not)
  stay (Msg i) h not = ap (λ m. get m i) held.queues
  stay (Sem i) h not = ap (λ m. get m i) held.sets

  buried : (name : Name) → concerns row parcel name ≡ false → is_brought bodies name ≡ true
      → get_named after name ≡ Some Gone
  buried (Proc q) h is = let n = is-none q h in held.children q n.own n.its (is_used-keys bodies q ∙ is)
  buried (Msg i) h is = differ is
  buried (Sem i) h is = differ is

  both-ended : IsEnded k deeds parcel bodies row after next outcome
  both-ended = record {
    alone = outcome_is;
    concerned = concerned;
    others = others;
    stays = stay;
    gone = buried;
  }

-- ---- what a parcel that fits says

pub both : (a b : Bool) → (a && b) ≡ true → (a ≡ true) × (b ≡ true)
both true b h = (refl, h)
both false b h = absurd (cc)

pub record Fits (deeds : Deeds) (parcel : Parcel) (bodies : Numbered Body) : Type 0 where
  pub rising : are_rising bodies ≡ true
  pub own : has_own_row parcel.call (get bodies parcel.pid) ≡ true
  pub over : list_all (is_over_but_for parcel.pid) bodies ≡ true
  pub absent : list_all (is_held_none deeds) bodies ≡ true

-- a parcel that fits, by the parts of the test
pub fits-parts : (deeds : Deeds) (parcel : Parcel) (bodies : Numbered Body) → fits_bodies deeds parcel bodies ≡ true
    → Fits deeds parcel bodies
fits-parts deeds parcel bodies h =
    let a = both (are_rising bodies) _ h
    in let b = both (has_own_row parcel.call (get bodies parcel.pid)) _ a.1
    in let c = both (list_all (is_over_but_for parcel.pid) bodies) _ b.1
    in record { rising = a.0; own = b.0; over = c.0; absent = c.1 }

no-value : {V : Type 0} (o : Option V) → is_none o ≡ true → o ≡ None
no-value None h = refl
no-value (Some v) h = absurd (cc)

absent-at : (deeds : Deeds) (bodies : Numbered Body) (q : ℕ) → list_all (is_held_none deeds) bodies ≡ true
    → is_used (map (λ e. e.0) bodies) q ≡ true → get deeds.processes q ≡ None
absent-at deeds [] q all used = differ used
absent-at deeds (e ∷ es) q all used =
    let w = both (is_none (get deeds.processes e.0)) (list_all (is_held_none deeds) es) all
    in by (nat_eq q e.0) refl w.0 used (absent-at deeds es q w.1)
  where
    by : (b : Bool) → nat_eq q e.0 ≡ b → is_none (get deeds.processes e.0) ≡ true
        → (b || is_used (map (λ x. x.0) es) q) ≡ true
        → (is_used (map (λ x. x.0) es) q ≡ true → get deeds.processes q ≡ None)
        → get deeds.processes q ≡ None
    by true is none h rest =
        ap (get deeds.processes) (same-from-nat_eq q e.0 is) ∙ no-value (get deeds.processes e.0) none
    by false is none h rest = rest h

-- whose deed is held isn't in the parcel
held-apart : (deeds : Deeds) (bodies : Numbered Body) (q : ℕ) (body : Body)
    → list_all (is_held_none deeds) bodies ≡ true → get deeds.processes q ≡ Some body
    → is_used (map (λ e. e.0) bodies) q ≡ false
held-apart deeds bodies q body all held = by (is_used (map (λ e. e.0) bodies) q) refl
  where
    by : (b : Bool) → is_used (map (λ e. e.0) bodies) q ≡ b → is_used (map (λ e. e.0) bodies) q ≡ false
    by false is = is
    by true is =
        let none : Some body ≡ None = sym held ∙ absent-at deeds bodies q all is in absurd (cc)

-- an ended child with its ending
abbrev HasEnding : List EndedChild → ℕ → Type 0
HasEnding es q = (ending : Ending) × Contains es (ended_child q ending)

among-ended : (es : List EndedChild) (q : ℕ) → is_among es q ≡ true → HasEnding es q
among-ended [] q h = differ h
among-ended (e ∷ es) q h = by (nat_eq q e.pid) refl h (among-ended es q)
  where
    by : (b : Bool) → nat_eq q e.pid ≡ b → (b || is_among es q) ≡ true → (is_among es q ≡ true → HasEnding es q)
        → HasEnding (e ∷ es) q
    by true is used later =
        (e.ending, (0, omega arith, ap (λ (p : ℕ). ended_child p e.ending) (sym (same-from-nat_eq q e.pid is))))
    by false is used later =
        let rest : HasEnding es q = later used
        in (rest.0, (suc rest.1.0, omega (arith, rest.1.1), rest.1.2))

own-may : (call : Call) (o : Option Body) (row : Row) → o ≡ Some (Living row) → has_own_row call o ≡ true
    → may_end_with row call ≡ true
own-may call o row is h = sym (ap (has_own_row call) is) ∙ h

in-keys : (bodies : Numbered Body) (q : ℕ) (body : Body) → get bodies q ≡ Some body
    → is_used (map (λ e. e.0) bodies) q ≡ true
in-keys bodies q body there = is_used-keys bodies q ∙ ap is_some there

apart-from : (a b : ℕ) (ns : List ℕ) → is_used ns a ≡ true → is_used ns b ≡ false → nat_eq a b ≡ false
apart-from a b ns used unused = by (nat_eq a b) refl
  where
    by : (t : Bool) → nat_eq a b ≡ t → nat_eq a b ≡ false
    by false is = is
    by true is =
        let same : a ≡ b = same-from-nat_eq a b is
        in differ (sym (subst (λ (n : ℕ). is_used ns n ≡ false) (sym same) unused) ∙ used)

not-among : (es : List EndedChild) (bodies : Numbered Body) (q : ℕ)
    → ((p : ℕ) → is_among es p ≡ true → is_used (map (λ e. e.0) bodies) p ≡ true)
    → is_used (map (λ e. e.0) bodies) q ≡ false → is_among es q ≡ false
not-among es bodies q brought unused = by (is_among es q) refl
  where
    by : (t : Bool) → is_among es q ≡ t → is_among es q ≡ false
    by false is = is
    by true is = differ (sym unused ∙ brought q is)

flip : (a b : ℕ) → nat_eq a b ≡ false → nat_eq b a ≡ false
flip a b h = grind arith

-- the end of a process, carried out beside its parent's deed, is the kernel's
pub ends-are-the-kernels : EndsAreTheKernels
ends-are-the-kernels k deeds parcel bodies c n next outcome valid fits agrees made gives =
    let f = fits-parts deeds parcel bodies fits
    in let w = lives-as (get k.processes parcel.pid) agrees.row agrees.lives
    in let es : List EndedChild = agrees.row.family.ended
    in let brought : (q : ℕ) → is_among es q ≡ true → is_used (map (λ e. e.0) bodies) q ≡ true =
    λ q h. let e = among-ended es q h in in-keys bodies q (Ended e.0) (agrees.children q e.0 e.1)
    in let unused : is_used (map (λ e. e.0) bodies) parcel.parent ≡ false =
    held-apart deeds bodies parcel.parent agrees.parent f.absent agrees.held
    in let apart : nat_eq parcel.pid parcel.parent ≡ false =
    apart-from parcel.pid parcel.parent (map (λ e. e.0) bodies)
    (in-keys bodies parcel.pid (Living agrees.row) agrees.brought) unused
    in let off : nat_eq parcel.parent parcel.pid ≡ false = flip parcel.pid parcel.parent apart
    in let stays : is_among w.alive.row.family.ended parcel.parent ≡ false =
    subst (λ (r : Row). is_among r.family.ended parcel.parent ≡ false) (sym w.row_is)
    (not-among es bodies parcel.parent brought unused)
    in let ends = ends-under k valid parcel.pid parcel.parent w.alive (ending_of parcel.call) apart agrees.parent
    agrees.parent_is agrees.parent_of off stays
    in let dead : living_at (end_process k parcel.pid w.alive (ending_of parcel.call)).kernel parcel.pid ≡ None =
    not-living _ (kept_by agrees.parent (ending_of parcel.call)) ends.own
    (kept_by-dead agrees.parent (ending_of parcel.call))
    in let lives : living_at k parcel.pid ≡ Some w.alive = ap (option_and_then alive_in) w.lives
    in let step = ended-by parcel.pid next outcome k n w.alive agrees.row parcel.call lives
    (own-may parcel.call (get bodies parcel.pid) agrees.row agrees.brought f.own) gives dead
    in let kernels : HasEnded k next parcel.pid parcel.parent es (kept_by agrees.parent (ending_of parcel.call))
    (left_by agrees.parent parcel.pid (ending_of parcel.call)) =
    subst (λ (j : Kernel).
    HasEnded k j parcel.pid parcel.parent es (kept_by agrees.parent (ending_of parcel.call))
    (left_by agrees.parent parcel.pid (ending_of parcel.call))) step.kernel_is
    (subst (λ (r : Row).
    HasEnded k (end_process k parcel.pid w.alive (ending_of parcel.call)).kernel parcel.pid parcel.parent
    r.family.ended (kept_by agrees.parent (ending_of parcel.call))
    (left_by agrees.parent parcel.pid (ending_of parcel.call))) w.row_is ends)
    in let held : AreAfter deeds (put_all deeds c.changes) parcel.pid parcel.parent (map (λ e. e.0) bodies)
    (kept_by agrees.parent (ending_of parcel.call)) (left_by agrees.parent parcel.pid (ending_of parcel.call)) =
    subst (λ (d : Deeds).
    AreAfter deeds d parcel.pid parcel.parent (map (λ e. e.0) bodies) (kept_by agrees.parent (ending_of parcel.call))
    (left_by agrees.parent parcel.pid (ending_of parcel.call)))
    (sym (committed deeds parcel bodies c apart agrees.parent made))
    (after-end deeds parcel.pid parcel.parent (map (λ e. e.0) bodies) (ending_of parcel.call) agrees.parent agrees.held
    apart off unused)
    in both-ended k next deeds (put_all deeds c.changes) parcel bodies agrees.row
    (kept_by agrees.parent (ending_of parcel.call)) (left_by agrees.parent parcel.pid (ending_of parcel.call)) outcome
    step.outcome_is kernels held brought
