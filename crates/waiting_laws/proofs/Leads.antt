-- How a step of the kernel in which nobody waits, whose history is in line, leads to one of the whole kernel, in which
-- callers wait. (Calls on queues and sets are in AtObjects, ends and strikes in Struck.)
use Rattle.std.proofs.Common.{◌≡◌, ◌≢◌, ◌∙◌, ℕ, Bool, true, false, ◌&&◌, List, [], ◌∷◌, ◌++◌, map, Option, Some, None, refl, ap, sym, subst}
use Rattle.std.specs.Prelude.{if◌then◌else◌}
use Rattle.std.specs.Option.{option_and_then}
use Rattle.std.proofs.lemmas.Bool.{false≢true}
use Rattle.pico_base.specs.declared.call.Call.{Call}
use Rattle.pico_base.specs.declared.call.Call.TheVariants as calls
use Rattle.pico_base.specs.Home.{home_of}
use Rattle.pico_base.specs.declared.numbers.Name.{Name}
use Rattle.pico_base.specs.declared.reply.Entry.{Entry}
use Rattle.pico_base.specs.declared.reply.Outcome.{Outcome}
use Rattle.pico_base.specs.declared.reply.Reply.{Reply}
use Rattle.number_maps.specs.Maps.{get}
use Rattle.kernel_model.specs.Effect as plain_effects
use Rattle.kernel_model.specs.Effect.{reply_alone}
use Rattle.kernel_model.specs.History.{number_in}
use Rattle.kernel_model.specs.Kernel as plain
use Rattle.kernel_model.specs.Row.{Waited, Found, NotYet, NoChild, wait}
use Rattle.kernel_model.specs.Row as plain_rows
use Rattle.kernel_model.specs.Transition as plain_steps
use Rattle.kernel_laws.specs.Reachable.{IsReachableKernel}
use Rattle.kernel_laws.proofs.Plain.{from_some, not_some}
use Rattle.kernel_laws.proofs.Steps.{Step, step}
use Rattle.kernel_laws.proofs.ValidLaws.{children_have_one_parent_lemma, reachable_kernels_are_valid_lemma}
use Rattle.waiting_model.specs.declared.callers.Wake.{Wake}
use Rattle.waiting_model.specs.Calls.{withdrawn_from}
use Rattle.waiting_model.specs.Waiters.{waiter}
use Rattle.waiting_model.specs.Marks.{Alive, is_parked_at}
use Rattle.waiting_model.specs.Kernel.{Kernel, living_at, opening}
use Rattle.waiting_model.specs.Effect.{Effect, outcome_of_effect, park, woken_pair}
use Rattle.waiting_model.specs.ProcessCalls.{reap_child}
use Rattle.waiting_model.specs.Transition.{Successor, effect, finish_call, may_make, successor, transition, transition_by, withdraw, withdrawn}
use Rattle.waiting_model.specs.History.{Replays}
use Rattle.waiting_model.specs.Linear.{LeadInLine, at_once, in_line}
use Rattle.waiting_laws.specs.InLine.{IsAlike}
use Rattle.waiting_laws.specs.Lines.{LeadsAlike, MayMakeLines, lines_of}
use Rattle.waiting_laws.specs.Sound.{IsSound}
use Rattle.waiting_laws.specs.Woken.{woken_in}
use Rattle.waiting_laws.proofs.AtObjects.{finished-queues, finished-sets}
use Rattle.waiting_laws.proofs.GoingOn.{lines-go-on}
use Rattle.waiting_laws.proofs.LinesLead.{entries-lead-in-line}
use Rattle.waiting_laws.proofs.Marked.{waiters_of}
use Rattle.waiting_laws.proofs.OneEnd.{lines-have-one-end}
pub use Rattle.waiting_laws.proofs.OthersMarks.{KeepsMarks}
use Rattle.waiting_laws.proofs.OthersMarks.{LivesOnIn, entry-keeps-others}
pub use Rattle.waiting_laws.proofs.OwnLines.{KeepsWaiters, is_not_yet, is_of_process, waits_for_child}
use Rattle.waiting_laws.proofs.OwnLines.{BothInForm, SameInForm, Stands, own-effects, with_row}
use Rattle.waiting_laws.proofs.ParkWaits.{reachable-park-waits}
use Rattle.waiting_laws.proofs.RemovalLines.{left-alike}
use Rattle.waiting_laws.proofs.Rows.{LivesAlike, alike-finished, alike-form, alike-living}
use Rattle.waiting_laws.proofs.SoundFine.{sound-fair, sound-fine}
use Rattle.waiting_laws.proofs.Soundness.{BothValid, entries-keep-soundness, lines-valid}
use Rattle.waiting_laws.proofs.Standing.{finished-alike}
use Rattle.waiting_laws.proofs.Steps.{step-is}

-- ---- calls that are on no queue and no set, and end nobody

-- the same step, with the same reply, wakes nobody, and leads to a kernel that is alike
pub record StepsAlike (whole : Kernel) (pid : ℕ) (call : Call) (reply : Reply) (last : plain.Kernel) : Type 0 where
  pub next : Kernel
  pub step : transition whole pid call (number_in (Some reply)) ≡ Some (successor next (reply_alone reply))
  pub alike : IsAlike next last
  pub keeps : KeepsWaiters whole next

-- what the whole kernel has where the other one has an effect
record WholeHas (k : Kernel) (caller : ℕ) (x : Option Effect) (p : plain_effects.Effect) : Type 0 where
  own : Effect
  is : x ≡ Some own
  same : SameInForm k caller own p

whole-has : (k : Kernel) (caller : ℕ) (x : Option Effect) (y : Option plain_effects.Effect) → BothInForm k caller x y
    → (p : plain_effects.Effect) → y ≡ Some p → WholeHas k caller x p
whole-has k caller None None h p is = not_some p is
whole-has k caller None (Some q) h p is = absurd h
whole-has k caller (Some e) None h p is = absurd h
whole-has k caller (Some e) (Some q) h p is =
    record {
      own = e;
      is = refl;
      same = subst (λ (x : plain_effects.Effect). SameInForm k caller e x) (from_some q p is) h;
    }

-- the other kernel has no effect of a withdrawal
ends-none : (k : plain.Kernel) (pid : ℕ) (b : plain_rows.Alive) (call : Call) (n : ℕ) (p : plain_effects.Effect)
    → plain_steps.effect k pid b (at_once call) n ≡ Some p → withdrawn_from call ≡ None
ends-none k pid b (calls.Withdraw name) n p is = not_some p is
ends-none k pid b call n p is = refl

reply-outcome : (e : Effect) (reply : Reply) → e.own ≡ Some reply → e.wakes ≡ []
    → outcome_of_effect e ≡ reply_alone reply
reply-outcome e reply own wakes =
    ap (λ (o : Option Reply). (let x : Outcome = record { own = o; woken = map woken_pair e.wakes } in x)) own
    ∙ ap (λ (ws : List Wake). (let x : Outcome = record { own = Some reply; woken = map woken_pair ws } in x)) wakes

kept-waiters : (whole mid : Kernel) (pid : ℕ) (call : Call) (own : Option Reply) → KeepsWaiters whole mid
    → KeepsWaiters whole (finish_call mid pid call own)
kept-waiters whole mid pid call own keeps =
    record {
      queues = λ id. ap (λ m. waiters_of (get m id)) (finished-queues mid pid call own) ∙ keeps.queues id;
      sets = λ id. ap (λ m. waiters_of (get m id)) (finished-sets mid pid call own) ∙ keeps.sets id;
    }

-- an effect of the other kernel is one of the whole one
in-whole : (whole : Kernel) (k : plain.Kernel) (pid : ℕ) (a : Alive) (call : Call) (n : ℕ) → IsSound whole
    → IsAlike whole k → is_of_process (home_of pid call) ≡ true → living_at whole pid ≡ Some a
    → waits_for_child a call ≡ false → (b : plain_rows.Alive) → plain.living_at k pid ≡ Some b
    → (p : plain_effects.Effect) → plain_steps.effect k pid b (at_once call) n ≡ Some p
    → WholeHas whole pid (effect whole (waiter pid call) a n) p
in-whole whole k pid a call n sound alike home lives found b plain_lives p gives =
    let fine = sound-fine whole sound
    in let st : Stands whole k.processes pid =
    record {
      alike = alike.processes;
      fair = λ q ne. sound-fair whole sound q;
      queues = fine.unused_queues;
      sets = fine.unused_sets;
    }
    in let other : LivesAlike (get k.processes pid) a =
    alike-living whole.processes k.processes alike.processes pid a lives
    in let its : plain_rows.Alive = with_row a.row other.alive.allowance
    in let is_its : b ≡ its =
    sym (from_some other.alive b (sym (ap (option_and_then plain.alive_in) other.is) ∙ plain_lives))
    ∙ ap (λ row. with_row row other.alive.allowance) (sym other.alike.0)
    in whole-has whole pid (effect whole (waiter pid call) a n) _
    (own-effects whole k.processes pid st a other.alive.allowance other.alike.1 call n home found) p
    (subst (λ (j : plain.Kernel). plain_steps.effect j pid its (at_once call) n ≡ Some p)
    (sym (alike-form whole k alike))
    (subst (λ (x : plain_rows.Alive). plain_steps.effect k pid x (at_once call) n ≡ Some p) is_its gives))

-- What such a call does at once in the kernel in which nobody waits, it does in the whole one. (A `waitpid` that finds
-- only living children has to wait, below.)
pub own-leads : (whole : Kernel) (k last : plain.Kernel) (pid : ℕ) (a : Alive) (call : Call) (reply : Reply)
    → IsSound whole → IsAlike whole k → is_of_process (home_of pid call) ≡ true → living_at whole pid ≡ Some a
    → may_make a call ≡ true → waits_for_child a call ≡ false
    → plain_steps.transition k pid (at_once call) (number_in (Some reply))
    ≡ Some (plain_steps.successor last (reply_alone reply))
    → StepsAlike whole pid call reply last
own-leads whole k last pid a call reply sound alike home lives may found does =
    let n : ℕ = number_in (Some reply)
    in let p : Step k pid (at_once call) n last (reply_alone reply) =
    step k pid (at_once call) n last (reply_alone reply) does
    in let h : WholeHas whole pid (effect whole (waiter pid call) a n) p.result =
    in-whole whole k pid a call n sound alike home lives found p.alive p.lives p.result p.gives
    in let e : Effect = h.own
    in let own : e.own ≡ Some reply = h.same.own ∙ p.says
    in record {
      next = finish_call e.kernel pid call e.own;
      step =
          step-is whole pid call n a e (ends-none k pid p.alive call n p.result p.gives) lives may h.is
          ∙ ap (λ (o : Outcome).
          (let s : Option Successor = Some (successor (finish_call e.kernel pid call e.own) o) in s))
          (reply-outcome e reply own h.same.wakes);
      alike =
          subst (λ (j : plain.Kernel). IsAlike (finish_call e.kernel pid call e.own) j) p.leads
          (finished-alike whole k.processes 0 pid call p.alive p.lives e.kernel h.same.rows h.same.alike e.own
          p.result.kernel h.same.kernel);
      keeps = kept-waiters whole e.kernel pid call e.own h.same.keeps;
    }

-- nobody has a reply, and nobody is woken
abbrev pub no_reply : Outcome
no_reply = record { own = None; woken = [] }

-- the caller parks, which is nothing in the kernel in which nobody waits
pub record ParksAlike (whole : Kernel) (pid : ℕ) (call : Call) (k : plain.Kernel) : Type 0 where
  pub next : Kernel
  pub step : (n : ℕ) → transition whole pid call n ≡ Some (successor next no_reply)
  pub alike : IsAlike next k
  pub keeps : KeepsWaiters whole next

parks-at : (whole : Kernel) (k : plain.Kernel) (pid : ℕ) (a : Alive) (call : Call) → IsAlike whole k
    → living_at whole pid ≡ Some a → may_make a call ≡ true → withdrawn_from call ≡ None
    → ((n : ℕ) → effect whole (waiter pid call) a n ≡ Some (park whole)) → ParksAlike whole pid call k
parks-at whole k pid a call alike lives may plain_call does =
    record {
      next = finish_call whole pid call None;
      step = λ n. step-is whole pid call n a (park whole) plain_call lives may (does n);
      alike =
          subst (λ (j : plain.Kernel). IsAlike (finish_call whole pid call None) j) (alike-form whole k alike)
          (alike-finished whole k.processes alike.processes pid call None);
      keeps = kept-waiters whole whole pid call None (record { queues = λ id. refl; sets = λ id. refl });
    }

finds-not-yet : (whole : Kernel) (pid : ℕ) (a : Alive) (w : Waited) → is_not_yet w ≡ true
    → reap_child whole pid a false w ≡ park whole
finds-not-yet whole pid a (Found child ending) h = absurd (false≢true h)
finds-not-yet whole pid a NotYet h = refl
finds-not-yet whole pid a NoChild h = absurd (false≢true h)

-- a `waitpid` that finds only living children
pub own-parks : (whole : Kernel) (k : plain.Kernel) (pid : ℕ) (a : Alive) (call : Call) → IsAlike whole k
    → living_at whole pid ≡ Some a → may_make a call ≡ true → waits_for_child a call ≡ true
    → ParksAlike whole pid call k
own-parks whole k pid a (calls.WaitPid child false) alike lives may waits =
    parks-at whole k pid a (calls.WaitPid child false) alike lives may refl
    (λ n.
    ap (λ (e : Effect). (let o : Option Effect = Some e in o))
    (finds-not-yet whole pid a (wait a.row.family child) waits))
own-parks whole k pid a (calls.WaitPid child true) alike lives may waits = absurd (false≢true waits)
own-parks whole k pid a call alike lives may waits = absurd (false≢true waits)

-- ---- withdrawals

-- What they leave of queues and sets is `Withdraws` (specs/Removals).
pub withdraws : (k : Kernel) (pid : ℕ) (a : Alive) (name : Name) (n : ℕ) → living_at k pid ≡ Some a
    → a.marks.struck ≡ true → is_parked_at pid name a.marks.parked ≡ true
    → transition k pid (calls.Withdraw name) n ≡ Some (withdraw k pid name)
withdraws k pid a name n lives struck parked =
    ap (transition_by k pid (calls.Withdraw name) n) lives
    ∙ (ap
    (λ (b : Bool).
    (let s : Option Successor =
    (if b && is_parked_at pid name a.marks.parked then Some (withdraw k pid name) else None)
    in s))
    struck
    ∙ ap (λ (b : Bool). (let s : Option Successor = (if b then Some (withdraw k pid name) else None) in s)) parked)

-- and the kernel stays alike
pub withdrawn-alike : (whole : Kernel) (k : plain.Kernel) (pid : ℕ) (name : Name) → IsSound whole → IsAlike whole k
    → IsAlike (withdrawn whole pid name) k
withdrawn-alike whole k pid name sound alike =
    subst (IsAlike (withdrawn whole pid name)) (alike-form whole k alike)
    (left-alike whole k.processes alike.processes sound.queues sound.sets pid name)

-- ---- the marks of others

pub record LivesOn (next : Kernel) (q : ℕ) (a : Alive) : Type 0 where
  pub alive : Alive
  pub lives : living_at next q ≡ Some alive
  pub keeps : KeepsMarks a alive

-- who isn't the caller, and isn't woken
pub others-keep-marks : (k : Kernel) (pid : ℕ) (call : Call) (n : ℕ) (s : Successor) → IsSound k
    → transition k pid call n ≡ Some s → (q : ℕ) (a : Alive) → q ≢ pid → woken_in q s.outcome.woken ≡ false
    → living_at k q ≡ Some a → LivesOn s.kernel q a
others-keep-marks k pid call n s sound is q a ne isnt lives =
    let on : LivesOnIn s.kernel.processes q a =
    entry-keeps-others k (sound-fine k sound) pid call n s is q a ne isnt lives
    in record { alive = on.alive; lives = on.lives; keeps = on.keeps }

-- ---- one more entry

-- An entry of the whole kernel, behind a history that stands in line with the other kernel. Its lines are still to
-- come.
pub record IsEntered (h : List Entry) (whole : Kernel) (k : plain.Kernel) (e : Entry) (next : Kernel) : Type 0 where
  pub legal : Replays opening h whole
  pub lines : LeadInLine plain.opening (in_line h) k
  pub sound : IsSound whole
  pub alike : IsAlike whole k
  pub may : MayMakeLines k (lines_of whole e)
  pub step : transition whole e.pid e.call (number_in e.outcome.own) ≡ Some (successor next e.outcome)

-- all of them have come
pub record GoesOn (h : List Entry) (whole : Kernel) (e : Entry) (next : Kernel) (last : plain.Kernel) : Type 0 where
  pub legal : Replays opening (h ++ e ∷ []) next
  pub lines : in_line (h ++ e ∷ []) ≡ in_line h ++ lines_of whole e
  pub sound : IsSound next
  pub alike : IsAlike next last

replays-more : (h : List Entry) (k mid next : Kernel) (e : Entry) → Replays k h mid
    → transition mid e.pid e.call (number_in e.outcome.own) ≡ Some (successor next e.outcome)
    → Replays k (h ++ e ∷ []) next
replays-more [] k mid next e r step =
    record {
      next = next;
      step =
          subst
          (λ (x : Kernel). transition x e.pid e.call (number_in e.outcome.own) ≡ Some (successor next e.outcome))
          (sym r) step;
      rest = refl;
    }
replays-more (f ∷ h) k mid next e r step =
    record { next = r.next; step = r.step; rest = replays-more h r.next mid next e r.rest step }

-- lines behind others lead on from where those lead to
record LeadsBy (k : plain.Kernel) (xs ys : List Entry) (last : plain.Kernel) : Type 0 where
  mid : plain.Kernel
  first : LeadInLine k xs mid
  then_ : LeadInLine mid ys last

lead-parts : (xs ys : List Entry) (k last : plain.Kernel) → LeadInLine k (xs ++ ys) last → LeadsBy k xs ys last
lead-parts [] ys k last h = record { mid = k; first = refl; then_ = h }
lead-parts (x ∷ xs) ys k last h =
    let rest : LeadsBy h.next xs ys last = lead-parts xs ys h.next last h.rest
    in record {
      mid = rest.mid;
      first = record { next = h.next; leads = h.leads; rest = rest.first };
      then_ = rest.then_;
    }

opening-valid : BothValid plain.opening
opening-valid =
    let reachable : IsReachableKernel plain.opening = ([], refl)
    in record {
      valid = reachable_kernels_are_valid_lemma plain.opening reachable;
      alone = λ pid a lives. (children_have_one_parent_lemma plain.opening reachable pid).not_itself a lives;
    }

leads-alike : (h : List Entry) (whole : Kernel) (k : plain.Kernel) (e : Entry) (next : Kernel)
    → IsEntered h whole k e next → LeadsAlike k (lines_of whole e) next
leads-alike h whole k e next x =
    let b : BothValid k = lines-valid (in_line h) plain.opening k opening-valid x.lines
    in entries-lead-in-line whole next k e x.sound (reachable-park-waits h whole x.legal) x.alike b.valid.processes
    x.may
    x.step

-- so the history stands in line again
pub goes-on : (h : List Entry) (whole : Kernel) (k : plain.Kernel) (e : Entry) (next : Kernel) (last : plain.Kernel)
    → IsEntered h whole k e next → LeadInLine plain.opening (in_line h ++ lines_of whole e) last
    → GoesOn h whole e next last
goes-on h whole k e next last x leads =
    let l : LeadsAlike k (lines_of whole e) next = leads-alike h whole k e next x
    in let parts : LeadsBy plain.opening (in_line h) (lines_of whole e) last =
    lead-parts (in_line h) (lines_of whole e) plain.opening last leads
    in let same : parts.mid ≡ k = lines-have-one-end plain.opening parts.mid k (in_line h) parts.first x.lines
    in let end : l.last ≡ last =
    lines-have-one-end k l.last last (lines_of whole e) l.leads
    (subst (λ (j : plain.Kernel). LeadInLine j (lines_of whole e) last) same parts.then_)
    in record {
      legal = replays-more h opening whole next e x.legal x.step;
      lines = lines-go-on h whole e next x.legal x.step;
      sound =
          entries-keep-soundness whole e.pid e.call (number_in e.outcome.own) (successor next e.outcome) x.sound x.step;
      alike = subst (IsAlike next) end l.alike;
    }

-- there is such a last one
pub lines-lead : (h : List Entry) (whole : Kernel) (k : plain.Kernel) (e : Entry) (next : Kernel)
    → IsEntered h whole k e next → (last : plain.Kernel) × LeadInLine k (lines_of whole e) last × IsAlike next last
lines-lead h whole k e next x =
    let l : LeadsAlike k (lines_of whole e) next = leads-alike h whole k e next x
    in (l.last, l.leads, l.alike)
