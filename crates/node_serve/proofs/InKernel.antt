-- What is served at once, by the kernel's transition.
use Rattle.std.proofs.Common.{◌≡◌, ◌∙◌, ℕ, Bool, true, false, ◌||◌, nat_eq, List, [], Option, Some, None, refl, sym, ap, subst}
use Rattle.std.specs.Option.{option_map}
use Rattle.pico_base.specs.declared.numbers.Name.{Name}
use Rattle.pico_base.specs.declared.numbers.Name.TheVariants.{Proc, Msg, Sem}
use Rattle.pico_base.specs.declared.reply.Ending.{Ending}
use Rattle.pico_base.specs.declared.reply.Outcome.{Outcome}
use Rattle.pico_base.specs.declared.reply.Reply.{Reply}
use Rattle.pico_base.specs.declared.reply.Reply.TheVariants.{Child}
use Rattle.number_maps.proofs.Order.{same-from-nat_eq}
use Rattle.kernel_model.specs.Kernel.{Kernel}
use Rattle.kernel_model.specs.Effect.{reply_alone}
use Rattle.kernel_model.specs.Transition.{successor, transition}
use Rattle.kernel_model.specs.Valid.{IsValid}
use Rattle.waiting_model.specs.declared.callers.Waiting.{Waiting}
use Rattle.waiting_model.specs.declared.callers.Wake.{Wake}
use Rattle.node_model.specs.Kinds.{Named, get_named, is_same_name, put_named}
use Rattle.node_model.specs.Bodies as model
use Rattle.node_model.specs.Bodies.{body_in}
use Rattle.node_model.specs.Awaiting.{Applied, on_whole}
use Rattle.node_model.specs.Carrying.{Done, is_served, on_body}
use Rattle.node_model.specs.Entries.{outcome_with}
use Rattle.node_model.specs.Serving.{name_for}
use Rattle.serve_laws.specs.Laws.{Follows, IsServed, is_found}
use Rattle.serve_laws.proofs.Steps.{served-calls}
use Rattle.node_serve.specs.declared.body.Body.{Body}
use Rattle.node_serve.specs.declared.body.Body.TheVariants.{Gone}
use Rattle.node_serve.specs.declared.serving.Readers.{Readers}
use Rattle.node_serve.specs.declared.serving.Served.{Served}
use Rattle.node_serve.specs.declared.serving.Served.TheVariants.{Did, NotAdmitted, NotHeld}
use Rattle.node_serve.specs.Bodies.{body_of}
use Rattle.node_serve.specs.Serving.{AgreesOn, Carries, FollowsKernel, Serves, ServesAsTheKernel, bury_found}
use Rattle.node_serve.proofs.AtOnce.{at-once-in}
use Rattle.node_serve.proofs.KernelLemmas.{apart-name, differ, named-other, named-same, same-name, some_same}

neither : (a b : Bool) → (a || b) ≡ false → (a ≡ false) × (b ≡ false)
neither true b h = absurd (cc)
neither false b h = (refl, h)

not-child : (child : ℕ) (ending : Ending) (other : Name) → is_found (Child child ending) other ≡ false
    → is_same_name (Proc child) other ≡ false
not-child child ending (Proc q) h = h
not-child child ending (Msg q) h = refl
not-child child ending (Sem q) h = refl

the-child : (child : ℕ) (ending : Ending) (other : Name) → is_found (Child child ending) other ≡ true
    → Proc child ≡ other
the-child child ending (Proc q) h = ap Proc (same-from-nat_eq child q h)
the-child child ending (Msg q) h = differ h
the-child child ending (Sem q) h = differ h

bury-other : (r : Reply) (m : Named Body) (other : Name) → is_found r other ≡ false
    → get_named (bury_found (Some r) m) other ≡ get_named m other
bury-other (Child child ending) m other h = named-other m (Proc child) other Gone (not-child child ending other h)
bury-other r m other h = refl

bury-child : (r : Reply) (m : Named Body) (other : Name) → is_found r other ≡ true
    → get_named (bury_found (Some r) m) other ≡ Some Gone
bury-child (Child child ending) m other h =
    subst (λ (n : Name). get_named (put_named m (Proc child) Gone) n ≡ Some Gone) (the-child child ending other h)
    (named-same m (Proc child) Gone)
bury-child r m other h = differ h

module _ (k next : Kernel) (old : Named Body) (name : Name) (left : Body) (answer : Reply)
    (d : Done model.Body) (follows : Follows k name d next answer) (leaves : d.left ≡ body_of left) where
  abbrev after : Named Body
  after = bury_found (Some answer) (put_named old name left)

  at-name : (other : Name) → is_same_name name other ≡ true → is_found answer other ≡ false
      → option_map body_of (get_named after other) ≡ Some (body_in next other)
  at-name other same not_found =
      let at : name ≡ other = same-name name other same
      in ap (option_map body_of)
      (bury-other answer (put_named old name left) other not_found
      ∙ subst (λ (n : Name). get_named (put_named old name left) n ≡ Some left) at (named-same old name left))
      ∙ ap Some (sym (subst (λ (n : Name). body_in next n ≡ body_of left) at (follows.there ∙ leaves)))

  concerned : (other : Name) (a b : Bool) → is_same_name name other ≡ a → is_found answer other ≡ b
      → (a || b) ≡ true → option_map body_of (get_named after other) ≡ Some (body_in next other)
  concerned other a true same found h =
      ap (option_map body_of) (bury-child answer (put_named old name left) other found)
      ∙ ap Some (sym (follows.found other found))
  concerned other true false same found h = at-name other same found
  concerned other false false same found h = differ h

  unconcerned : (other : Name) → is_same_name name other ≡ false → is_found answer other ≡ false
      → get_named after other ≡ get_named old other
  unconcerned other apart not_found =
      bury-other answer (put_named old name left) other not_found ∙ named-other old name other left apart

  stands : (new : Named Body) (outcome reached : Outcome) → new ≡ after → outcome ≡ reply_alone answer
      → outcome ≡ reached → FollowsKernel k old name new next outcome reached
  stands new outcome reached is alone same =
      subst (λ (m : Named Body). FollowsKernel k old name m next outcome reached) (sym is)
      (subst (λ (o : Outcome). FollowsKernel k old name after next o reached) (sym alone)
      (record {
        same = sym alone ∙ same;
        concerned = λ other h.
            concerned other (is_same_name name other) (is_found answer other) refl refl h;
        others = λ other h.
            let w = neither (is_same_name name other) (is_found answer other) h
            in follows.others other (apart-name name other w.0) w.1;
        stays = λ other h.
            let w = neither (is_same_name name other) (is_found answer other) h in unconcerned other w.0 w.1;
      }))

module _ (old : Named Body) (who : Waiting) (served : is_served who.call ≡ true) where
  in-kernel : (new : Named Body) (own : Option Reply) (wakes : List Wake) (reads : Bool) (readers : Readers)
      → Carries old who new own wakes reads readers
      → (k next : Kernel) (n : ℕ) (name : Name) (reached : Outcome) → IsValid k
      → name_for who.pid who.call ≡ Some name → AgreesOn k old name
      → transition k who.pid who.call n ≡ Some (successor next reached)
      → FollowsKernel k old name new next (outcome_with own wakes) reached
  in-kernel new own wakes reads readers c k next n name reached valid named agrees gives =
      let at : c.name ≡ name = some_same c.name name (sym c.names ∙ named)
      in let held : get_named old name ≡ Some c.body = subst (λ (m : Name). get_named old m ≡ Some c.body) at c.held
      in let d : Done model.Body = on_body name (body_in k name) who.pid who.call
      in let does : record { left = d.left; own = Some d.reply; wakes = [] }
      ≡ record { left = body_of c.left; own = own; wakes = wakes } =
      sym (at-once-in k name who served)
      ∙ ap (λ (b : model.Body). on_whole name b who) (agrees c.body held)
      ∙ subst (λ (m : Name). on_whole m (body_of c.body) who
      ≡ record { left = body_of c.left; own = own; wakes = wakes })
      at c.does.does
      in let s : IsServed k who.pid who.call name next reached =
      served-calls k who.pid n who.call name next reached valid served named gives
      in let answer : s.answer ≡ d.reply = s.follows.reply
      in let follows : Follows k name d next d.reply = subst (λ (r : Reply). Follows k name d next r) answer s.follows
      in let replies : own ≡ Some d.reply = sym (ap (λ (a : Applied model.Body). a.own) does)
      in let nobody : wakes ≡ [] = sym (ap (λ (a : Applied model.Body). a.wakes) does)
      in let after : new ≡ bury_found (Some d.reply) (put_named old name c.left) =
      subst (λ (m : Name). new ≡ bury_found own (put_named old m c.left)) at c.after
      ∙ ap (λ (o : Option Reply). bury_found o (put_named old name c.left)) replies
      in let alone : outcome_with own wakes ≡ reply_alone d.reply =
      ap (λ (o : Option Reply). outcome_with o wakes) replies ∙ ap (outcome_with (Some d.reply)) nobody
      in stands k next old name c.left d.reply d follows (ap (λ (a : Applied model.Body). a.left) does) new
      (outcome_with own wakes) reached after alone
      (alone ∙ ap reply_alone (sym answer) ∙ sym s.alone)

-- where the call neither makes nor ends anything nor waits, each kernel that agrees does the same
pub serves-as-the-kernel : (old : Named Body) (who : Waiting) (new : Named Body) (s : Served) → Serves old who new s
    → ServesAsTheKernel old who new s
serves-as-the-kernel old who new NotHeld h = tt
serves-as-the-kernel old who new NotAdmitted h = tt
serves-as-the-kernel old who new (Did own wakes reads readers) h = λ served.
    record { follows = in-kernel old who served new own wakes reads readers h }
