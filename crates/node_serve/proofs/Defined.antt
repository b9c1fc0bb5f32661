-- What is served, by the definition of a served call.
use Rattle.std.proofs.Common.{◌≡◌, ◌∙◌, ℕ, Bool, true, false, not, ◌&&◌, List, [], ◌∷◌, ◌++◌, map, Option, Some, None, refl, sym, ap}
use Rattle.std.specs.Prelude.{if◌then◌else◌, IsTrue}
use Rattle.std.specs.List.{filter, AllByRecursion}
use Rattle.std.specs.Option.{option_and_then, option_map, option_map_or}
use Rattle.pico_base.specs.declared.call.Call.{Call}
use Rattle.pico_base.specs.declared.call.Call.TheVariants as calls
use Rattle.pico_base.specs.declared.numbers.Name.{Name}
use Rattle.pico_base.specs.declared.numbers.Name.TheVariants.{Proc}
use Rattle.pico_base.specs.declared.reply.Reply.{Reply}
use Rattle.pico_base.specs.declared.reply.Reply.TheVariants as replies
use Rattle.waiting_model.specs.declared.callers.Waiting.{Waiting}
use Rattle.waiting_model.specs.declared.callers.Wake.{Wake}
use Rattle.waiting_model.specs.Effect.{Effect}
use Rattle.waiting_model.specs.Kernel.{Kernel}
use Rattle.waiting_model.specs.Marks.{Alive}
use Rattle.waiting_model.specs.Transition.{effect, effect_by}
use Rattle.deed_box.specs.Deeds.{AreRising}
use Rattle.node_model.specs.Awaiting.{Applied, on_whole}
use Rattle.node_model.specs.Bodies as model
use Rattle.node_model.specs.Bodies.{kernel_with, waiters_of}
use Rattle.node_model.specs.Kinds.{Named, get_named, put_all, put_named}
use Rattle.node_model.specs.Serving as definition
use Rattle.node_model.specs.Serving.{actor, admits, caller_if, has_read_if, makes_something, name_for, serve_at, serve_by, serve_on, woken_reads}
use Rattle.serve_laws.specs.Served.{IsServedAs, found_gone}
use Rattle.serve_laws.proofs.OnWhole.{served-is-on_whole}
use Rattle.node_serve.specs.declared.body.Body.{Body}
use Rattle.node_serve.specs.declared.body.Body.TheVariants.{Gone}
use Rattle.node_serve.specs.declared.serving.Readers.{Readers}
use Rattle.node_serve.specs.declared.serving.Served.{Served}
use Rattle.node_serve.specs.declared.serving.Served.TheVariants.{Did, NotAdmitted, NotHeld}
use Rattle.node_serve.specs.declared.prompt.Replied.{Replied}
use Rattle.node_serve.specs.Bodies.{bodies_of, body_of}
use Rattle.node_serve.specs.Prompt.{AnswersOr, IsAnswered, IsPrompt, PromptOr}
use Rattle.node_serve.specs.Serving.{Carries, IsDefined, MayMake, Refuses, Serves, ServesAsDefined, admits_at, bury_found, child_in, held_at, may_be_served, nodes_that_read, reads_among}
use Rattle.node_serve.proofs.KernelLemmas.{bodies-get, bodies-put, differ}
use Rattle.node_serve.proofs.ServingLemmas.{put-again}

-- ---- a call that may be served has an effect

served-makes-nothing : (call : Call) → may_be_served call ≡ true → makes_something call ≡ false
served-makes-nothing (calls.Fork block) s = differ s
served-makes-nothing (calls.MsgGet key create excl) s = differ s
served-makes-nothing (calls.SemGet key count create excl) s = differ s
served-makes-nothing call s = refl

-- a call that may be served has this effect
pub record HasEffect (o : Option Effect) : Type 0 where
  pub made : Effect
  pub is : o ≡ Some made

has : (e : Effect) → HasEffect (Some e)
has e = record { made = e; is = refl }

-- every call that may be served has one
pub has-effect : (k : Kernel) (who : Waiting) (a : Alive) (n : ℕ) (call : Call) → may_be_served call ≡ true
    → HasEffect (effect_by k who a call n)
has-effect k who a n (calls.Fork block) s = differ s
has-effect k who a n (calls.Exit status) s = differ s
has-effect k who a n (calls.Killed sig) s = differ s
has-effect k who a n (calls.MsgGet key create excl) s = differ s
has-effect k who a n (calls.SemGet key count create excl) s = differ s
has-effect k who a n (calls.Withdraw name) s = differ s
has-effect k who a n calls.GetPid s = has _
has-effect k who a n (calls.Kill target sig) s = has _
has-effect k who a n (calls.SigAction sig act) s = has _
has-effect k who a n (calls.SigProcMask how set) s = has _
has-effect k who a n calls.SigPending s = has _
has-effect k who a n (calls.Handled sig) s = has _
has-effect k who a n (calls.WaitPid child nohang) s = has _
has-effect k who a n (calls.MsgSnd id class text nowait) s = has _
has-effect k who a n (calls.MsgRcv id class size noerror nowait) s = has _
has-effect k who a n (calls.MsgStat id) s = has _
has-effect k who a n (calls.MsgSet id qbytes) s = has _
has-effect k who a n (calls.MsgRmid id) s = has _
has-effect k who a n (calls.SemOp id steps) s = has _
has-effect k who a n (calls.SemGetVal id num) s = has _
has-effect k who a n (calls.SemGetPid id num) s = has _
has-effect k who a n (calls.SemGetNcnt id num) s = has _
has-effect k who a n (calls.SemGetZcnt id num) s = has _
has-effect k who a n (calls.SemSetVal id num value) s = has _
has-effect k who a n (calls.SemGetAll id) s = has _
has-effect k who a n (calls.SemSetAll id values) s = has _
has-effect k who a n (calls.SemRmid id) s = has _

-- what two tests answer alike of each, they keep alike
filter_same : (p q : Wake → Bool) (ws : List Wake) → AllByRecursion (λ w. p w ≡ q w) ws → filter p ws ≡ filter q ws
filter_same p q [] same = refl
filter_same p q (w ∷ ws) same = rw (same.0, filter_same p q ws same.1) refl

-- ---- by the definition

-- the child that a call found is gone, as the definition has it
pub buried : (own : Option Reply) (m : Named Body)
    → bodies_of (bury_found own m) ≡ put_all (bodies_of m) (found_gone own)
buried (Some (replies.Child child ending)) m = bodies-put m (Proc child) Gone
buried (Some r) m = refl
buried None m = refl

module _ (old : Named Body) (who : Waiting) (served : may_be_served who.call ≡ true) where
  -- serving is looking up the call's name
  pub looked-up : (o : Option Name) → name_for who.pid who.call ≡ o
      → definition.serve (bodies_of old) who ≡ serve_at (bodies_of old) who o
  looked-up o is =
      ap (λ (b : Bool). if b then None else serve_at (bodies_of old) who (name_for who.pid who.call))
      (served-makes-nothing who.call served)
      ∙ ap (serve_at (bodies_of old) who) is

  not-held : (o : Option Name) → name_for who.pid who.call ≡ o → held_at old o ≡ None
      → definition.serve (bodies_of old) who ≡ None
  not-held None is none = looked-up None is
  not-held (Some name) is none =
      looked-up (Some name) is
      ∙ ap (option_and_then (λ body. serve_on name body who)) (bodies-get old name ∙ ap (option_map body_of) none)

  admitted-at : (name : Name) (body : Body) → name_for who.pid who.call ≡ Some name
      → get_named old name ≡ Some body
      → admits_at (bodies_of old) who (name_for who.pid who.call) ≡ admits (body_of body) who
  admitted-at name body named held =
      ap (admits_at (bodies_of old) who) named
      ∙ ap (λ (o : Option model.Body). option_map_or (λ b. admits b who) o true)
      (bodies-get old name ∙ ap (option_map body_of) held)

  -- who reads, as the definition has it
  same-nodes : (body : model.Body) (own : Option Reply) (wakes : List Wake) (reads : Bool) (readers : Readers)
      (e : Effect) → own ≡ e.own → wakes ≡ e.wakes → reads ≡ has_read_if who.call own
      → AllByRecursion (λ w. reads_among readers w ≡ woken_reads (waiters_of body) w) wakes
      → nodes_that_read who.caller reads wakes readers ≡ definition.readers_of body who e
  same-nodes body own wakes reads readers e replies woken read say =
      ap (λ (b : Bool). caller_if b who.caller ++ map (λ w. w.caller) (filter (reads_among readers) wakes))
      (read ∙ ap (has_read_if who.call) replies)
      ∙ ap (λ (ws : List Wake). caller_if (has_read_if who.call e.own) who.caller ++ map (λ w. w.caller) ws)
      (filter_same (reads_among readers) (woken_reads (waiters_of body)) wakes say
      ∙ ap (filter (woken_reads (waiters_of body))) woken)

  defined : (new : Named Body) (own : Option Reply) (wakes : List Wake) (reads : Bool) (readers : Readers)
      → Carries old who new own wakes reads readers → MayMake old who.pid who.call
      → IsDefined old who new own wakes reads readers
  defined new own wakes reads readers c may =
      let body : model.Body = body_of c.body
      in let m = may c.name c.body c.names c.held
      in let e = has-effect (kernel_with c.name body) who (actor body) 0 who.call served
      in let s : definition.Served = serve_by c.name body who e.made
      in let on : serve_on c.name body who ≡ Some s = ap (option_map (serve_by c.name body who)) e.is
      in let same : IsServedAs c.name (on_whole c.name body who) s =
      served-is-on_whole c.name body who s c.names (is-true m.0) m.1 on
      in let replies : own ≡ s.own = sym (same.own ∙ ap (λ (d : Applied model.Body). d.own) c.does.does)
      in let woken : wakes ≡ s.wakes = sym (same.wakes ∙ ap (λ (d : Applied model.Body). d.wakes) c.does.does)
      in let changes : s.changes ≡ (c.name, body_of c.left) ∷ found_gone own =
      same.changes ∙ ap (λ (d : Applied model.Body). (c.name, d.left) ∷ found_gone d.own) c.does.does
      in record {
        served = s;
        admitted = admitted-at c.name c.body c.names c.held ∙ c.does.admitted;
        is = looked-up (Some c.name) c.names
            ∙ ap (option_and_then (λ b. serve_on c.name b who))
            (bodies-get old c.name ∙ ap (option_map body_of) c.held)
            ∙ on;
        after = ap bodies_of c.after ∙ buried own (put_named old c.name c.left)
            ∙ ap (λ (d : model.Deeds). put_all d (found_gone own)) (bodies-put old c.name c.left)
            ∙ sym (ap (put_all (bodies_of old)) changes);
        replies = replies;
        woken = woken;
        read = same-nodes body own wakes reads readers e.made replies woken c.does.read c.does.woken;
      }
    where
      is-true : {b : Bool} → IsTrue b → b ≡ true
      is-true h = h

  refused : Refuses old who → admits_at (bodies_of old) who (name_for who.pid who.call) ≡ false
  refused r = admitted-at r.name r.refuses.body r.names r.refuses.held ∙ r.refuses.refuses

  pub serves-as-defined : (new : Named Body) (s : Served) → Serves old who new s → ServesAsDefined old who new s
  serves-as-defined new NotHeld h = not-held (name_for who.pid who.call) refl h.0
  serves-as-defined new NotAdmitted h = refused h.0
  serves-as-defined new (Did own wakes reads readers) h = defined new own wakes reads readers h

-- ---- a call that has its reply at once

childless-found : (reply : Reply) → child_in (Some reply) ≡ None → found_gone (Some reply) ≡ []
childless-found (replies.Child child ending) none = absurd (cc)
childless-found reply none = refl

answered : (old : Named Body) (name : Name) (who : Waiting) (body left : Body) (at : Replied)
    → get_named old name ≡ Some body → IsPrompt name body who left at
    → IsAnswered old name who (put_named old name left) at
answered old name who body left at held p =
    let b : model.Body = body_of body
    in let e = has-effect (kernel_with name b) who (actor b) 0 who.call p.served
    in let s : definition.Served = serve_by name b who e.made
    in let on : serve_on name b who ≡ Some s = ap (option_map (serve_by name b who)) e.is
    in let same : IsServedAs name (on_whole name b who) s =
    served-is-on_whole name b who s p.names p.fits (λ own. differ (sym p.others ∙ own)) on
    in let replies : Some at.reply ≡ s.own = sym (same.own ∙ ap (λ (d : Applied model.Body). d.own) p.does)
    in let woken : [] ≡ s.wakes = sym (same.wakes ∙ ap (λ (d : Applied model.Body). d.wakes) p.does)
    in let changes : s.changes ≡ (name, body_of left) ∷ [] =
    same.changes ∙ ap (λ (d : Applied model.Body). (name, d.left) ∷ found_gone d.own) p.does
    ∙ ap (λ (gone : List (Name × model.Body)). (name, body_of left) ∷ gone) (childless-found at.reply p.childless)
    in record {
      served = s;
      admitted = ap (λ (o : Option model.Body). option_map_or (λ b. admits b who) o true)
          (bodies-get old name ∙ ap (option_map body_of) held) ∙ p.admitted;
      is = looked-up old who p.served (Some name) p.names
          ∙ ap (option_and_then (λ b. serve_on name b who)) (bodies-get old name ∙ ap (option_map body_of) held)
          ∙ on;
      after = bodies-put old name left ∙ sym (ap (put_all (bodies_of old)) changes);
      replies = replies;
      woken = woken;
      read = ap (λ (reads : Bool). caller_if reads who.caller ++ []) p.read
          ∙ ap (λ (own : Option Reply). caller_if (has_read_if who.call own) who.caller ++ []) replies
          ∙ ap (λ (ws : List Wake). caller_if (has_read_if who.call e.made.own) who.caller
          ++ map (λ w. w.caller) (filter (woken_reads (waiters_of b)) ws)) woken;
    }

-- or all stays
pub answered-or : (old : Named Body) (name : Name) (who : Waiting) (body left : Body) (o : Option Replied)
    → AreRising old → get_named old name ≡ Some body → PromptOr name body who left o
    → AnswersOr old name who (put_named old name left) o
answered-or old name who body left None rising held p = ap (put_named old name) p ∙ put-again old name body rising held
answered-or old name who body left (Some at) rising held p = answered old name who body left at held p
