-- The definition of a served call, by a kernel that has the name alone, against what the call does on a body where
-- callers wait.
use Rattle.std.proofs.Common.{◌≡◌, ◌∙◌, ℕ, Bool, true, false, nat_eq, [], ◌∷◌, Option, Some, None, refl, sym, ap, subst}
use Rattle.std.specs.Option.{option_map}
use Rattle.pico_base.specs.declared.numbers.Name.{Name}
use Rattle.pico_base.specs.declared.numbers.Name.TheVariants.{Proc, Msg, Sem}
use Rattle.pico_base.specs.declared.reply.Ending.{Ending}
use Rattle.pico_base.specs.declared.reply.Reply.{Reply}
use Rattle.pico_base.specs.declared.reply.Reply.TheVariants as replies
use Rattle.number_maps.specs.Maps.{get, put}
use Rattle.number_maps.proofs.LookUps.{get-put-same, get-put-apart}
use Rattle.number_maps.proofs.Order.{same-from-nat_eq}
use Rattle.waiting_model.specs.declared.callers.Waiting.{Waiting}
use Rattle.waiting_model.specs.Linear.{at_once}
use Rattle.waiting_model.specs.Marks.{Alive, Marks}
use Rattle.waiting_model.specs.Kernel.{Kernel, Process, wake_all, wake_one, with_alive}
use Rattle.waiting_model.specs.Kernel as kernel
use Rattle.waiting_model.specs.Effect.{Effect}
use Rattle.waiting_model.specs.Transition.{effect}
use Rattle.node_model.specs.Awaiting.{Applied, on_whole}
use Rattle.node_model.specs.Bodies.{Body, Gone, fits_name, kernel_with, whole_in, whole_process}
use Rattle.node_model.specs.Carrying.{is_own, is_served}
use Rattle.node_model.specs.Serving.{Served, actor, changed_names, name_for, parts_in, serve_by, serve_on}
use Rattle.serve_laws.specs.Served.{BodiesCarryNoMarks, IsServedAs, MakesOwn, ServedIsOnWhole, found_gone}
use Rattle.serve_laws.proofs.Left.{Leaves}
use Rattle.serve_laws.proofs.WholeEffects.{effect-leaves, has-effect, some-same}

-- ---- what is written down of a call

parts-are : (k : Kernel) (name : Name) (d : Applied Body) (own : Option Reply) → own ≡ d.own
    → whole_in k name ≡ d.left
    → ((child : ℕ) (ending : Ending) → d.own ≡ Some (replies.Child child ending) → whole_in k (Proc child) ≡ Gone)
    → parts_in k (changed_names name own) ≡ (name, d.left) ∷ found_gone own
parts-are k name d None is there found = ap (λ (b : Body). (name, b) ∷ []) there
parts-are k name d (Some (replies.Child child ending)) is there found =
    ap (λ (b : Body). (name, b) ∷ (Proc child, whole_in k (Proc child)) ∷ []) there
    ∙ ap (λ (b : Body). (name, d.left) ∷ (Proc child, b) ∷ []) (found child ending (sym is))
parts-are k name d (Some r) is there found = ap (λ (b : Body). (name, b) ∷ []) there

-- the effect that is written down, and what it leaves
pub record ServesAs (name : Name) (body : Body) (who : Waiting) (s : Served) : Type 0 where
  pub made : Effect
  pub is : effect (kernel_with name body) who (actor body) 0 ≡ Some made
  pub served : serve_by name body who made ≡ s
  pub leaves : Leaves name (on_whole name body who) made

serves-as : (name : Name) (body : Body) (who : Waiting) (s : Served) → name_for who.pid who.call ≡ Some name
    → fits_name name body ≡ true → (is_own who.pid who.call ≡ true → MakesOwn who.pid body)
    → (o : Option Effect) → effect (kernel_with name body) who (actor body) 0 ≡ o
    → option_map (serve_by name body who) o ≡ Some s → ServesAs name body who s
serves-as name body who s named fits makes None is serves = absurd (cc)
serves-as name body who s named fits makes (Some e) is serves = record {
  made = e;
  is = is;
  served = some-same (serve_by name body who e) s serves;
  leaves = effect-leaves who.caller who.ticket who.pid who.call name body named fits makes e is;
}

-- what is served is a call's effect
pub serves-effect : (name : Name) (body : Body) (who : Waiting) (s : Served) → name_for who.pid who.call ≡ Some name
    → fits_name name body ≡ true → (is_own who.pid who.call ≡ true → MakesOwn who.pid body)
    → serve_on name body who ≡ Some s → ServesAs name body who s
serves-effect name body who s named fits makes serves =
    serves-as name body who s named fits makes (effect (kernel_with name body) who (actor body) 0) refl serves

-- a call that makes nothing, ends nobody and isn't a withdrawal is served
pub serves-on : (name : Name) (body : Body) (who : Waiting) → is_served (at_once who.call) ≡ true
    → (s : Served) × (serve_on name body who ≡ Some s)
serves-on name body who served =
    let e = has-effect (kernel_with name body) who (actor body) who.call served
    in (serve_by name body who e.made, ap (option_map (serve_by name body who)) e.is)

-- a served call is the call on its name's body
pub served-is-on_whole : ServedIsOnWhole
served-is-on_whole name body who s named fits makes serves =
    let w = serves-effect name body who s named fits makes serves
    in let d : Applied Body = on_whole name body who
    in subst (IsServedAs name d) w.served
    (record {
      changes = parts-are w.made.kernel name d w.made.own w.leaves.own w.leaves.there w.leaves.found
          ∙ ap (λ (own : Option Reply). (name, d.left) ∷ found_gone own) w.leaves.own;
      own = w.leaves.own;
      wakes = w.leaves.wakes;
    })

-- ---- a body carries no marks

abbrev marked : Alive → Marks → Process
marked alive m = kernel.Living (record alive { marks = m })

-- the bodies that are seen of a kernel don't depend on anyone's marks
pub no-marks : BodiesCarryNoMarks
no-marks k pid alive a b (Msg i) = refl
no-marks k pid alive a b (Sem i) = refl
no-marks k pid alive a b (Proc p) = by (nat_eq p pid) refl
  where
    by : (t : Bool) → nat_eq p pid ≡ t
        → whole_process (get (put k.processes pid (marked alive a)) p)
        ≡ whole_process (get (put k.processes pid (marked alive b)) p)
    by true is =
        subst (λ (q : ℕ). whole_process (get (put k.processes pid (marked alive a)) q)
        ≡ whole_process (get (put k.processes pid (marked alive b)) q)) (sym (same-from-nat_eq p pid is))
        (ap whole_process (get-put-same k.processes pid (marked alive a))
        ∙ sym (ap whole_process (get-put-same k.processes pid (marked alive b))))
    by false is =
        ap whole_process (get-put-apart k.processes pid p (marked alive a) is)
        ∙ sym (ap whole_process (get-put-apart k.processes pid p (marked alive b) is))
