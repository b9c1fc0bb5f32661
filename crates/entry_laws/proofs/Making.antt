-- From a call's effect to its entry: after the effect only what the caller may still do can be another one.
use Rattle.std.proofs.Common.{◌≡◌, ℕ, Bool, true, false, Option, Some, None, refl, ap, sym, ◌∙◌, inl, inr}
use Rattle.std.specs.Prelude.{is_some, if◌then◌else◌, length}
use Rattle.std.specs.Option.{option_map_or}
use Rattle.std.proofs.lemmas.Bool.{cases_eq}
use Rattle.pico_base.specs.declared.call.Call.{Call}
use Rattle.pico_base.specs.declared.numbers.Kind.{Kind}
use Rattle.pico_base.specs.declared.numbers.Name.{Name}
use Rattle.pico_base.specs.declared.numbers.Name.TheVariants.{Proc, Msg, Sem}
use Rattle.number_maps.specs.Maps.{get, put}
use Rattle.number_maps.proofs.LookUps.{get-put-same, get-put-other}
use Rattle.kernel_model.specs.Row.{Alive, Spent}
use Rattle.kernel_model.specs.Kernel.{Kernel, living_at, with_alive}
use Rattle.kernel_model.specs.Kernel as kernel
use Rattle.kernel_model.specs.Effect.{Effect, reply_alone}
use Rattle.kernel_model.specs.SetCalls.{set_size}
use Rattle.kernel_model.specs.Transition.{effect, finish_call, outcome_of, successor, transition, transition_by}
use Rattle.kernel_model.specs.History.{number_in}
use Rattle.kernel_model.specs.Footprint.{used_of}
use Rattle.kernel_laws.proofs.People.{from-living}
use Rattle.waiting_model.specs.Linear.{Does}
use Rattle.node_model.specs.Bodies.{body_in, process_body}
use Rattle.serve_laws.proofs.AtOnce.{at-once-steps, never-waits}
use Rattle.entry_laws.specs.Entering.{MayMake, Makes, Enters, KeepsBodies, KeepsKeys, used_after}

-- the kernel once the entry of a call with this kernel as its effect's is made
abbrev pub finished : Kernel → ℕ → Kernel
finished k pid = finish_call k pid (living_at k pid)

-- the same but for what processes may still do
pub record IsLike (k j : Kernel) : Type 0 where
  pub bodies : KeepsBodies k j
  pub used : (kind : Kind) → used_of j kind ≡ used_of k kind
  pub queue_keys : j.queue_keys ≡ k.queue_keys
  pub set_keys : j.set_keys ≡ k.set_keys
  pub queues : j.queues ≡ k.queues
  pub sets : j.sets ≡ k.sets

spent-body : (k : Kernel) (pid : ℕ) (a : Alive) → living_at k pid ≡ Some a → (name : Name)
    → body_in (with_alive k pid (record a { allowance = Spent })) name ≡ body_in k name
spent-body k pid a lives (Msg id) = refl
spent-body k pid a lives (Sem id) = refl
spent-body k pid a lives (Proc p) =
    let spent : kernel.Process = kernel.Living (record a { allowance = Spent })
    in elim (cases_eq p pid) [
      | inl same ↦
          ap (λ (q : ℕ). process_body (get (put k.processes pid spent) q)) same
          ∙ ap process_body (get-put-same k.processes pid spent)
          ∙ sym (ap (λ (q : ℕ). process_body (get k.processes q)) same
          ∙ ap process_body (from-living k.processes pid a lives))
      | inr other ↦ ap process_body (get-put-other k.processes pid spent p other)
    ]

finish-by : (k : Kernel) (pid : ℕ) (o : Option Alive) → living_at k pid ≡ o → IsLike k (finish_call k pid o)
finish-by k pid None lives = record {
  bodies = λ name. refl;
  used = λ kind. refl;
  queue_keys = refl;
  set_keys = refl;
  queues = refl;
  sets = refl;
}
finish-by k pid (Some a) lives = by (is_some a.row.signals.doom)
  where
    by : (b : Bool) → IsLike k (if b then with_alive k pid (record a { allowance = Spent }) else k)
    by true = record {
      bodies = spent-body k pid a lives;
      used = λ kind. refl;
      queue_keys = refl;
      set_keys = refl;
      queues = refl;
      sets = refl;
    }
    by false = record {
      bodies = λ name. refl;
      used = λ kind. refl;
      queue_keys = refl;
      set_keys = refl;
      queues = refl;
      sets = refl;
    }

-- what a process may still do is no part of bodies, numbers and keys
pub finished-is-like : (k : Kernel) (pid : ℕ) → IsLike k (finished k pid)
finished-is-like k pid = finish-by k pid (living_at k pid) refl

-- a call that may be made, and whose effect is known, is the kernel's step
pub steps-by : (k : Kernel) (pid : ℕ) (call : Call) (e : Effect) (m : MayMake k pid call)
    → effect k pid m.alive call (number_in (Some e.reply)) ≡ Some e
    → transition k pid call (number_in (Some e.reply)) ≡ Some (successor (finished e.kernel pid) (reply_alone e.reply))
steps-by k pid call e m gives =
    let n : ℕ = number_in (Some e.reply)
    in ap (transition_by k pid call n) m.lives
    ∙ ap (λ (t : Bool). if t then outcome_of pid (effect k pid m.alive call n) else None) m.may
    ∙ ap (outcome_of pid) gives

-- a call that has an effect doesn't have to wait, and so it is what it is at once
pub makes-by : (k : Kernel) (pid : ℕ) (call : Call) (e : Effect) (m : MayMake k pid call)
    → effect k pid m.alive call (number_in (Some e.reply)) ≡ Some e
    → Makes k pid call e.reply (finished e.kernel pid)
makes-by k pid call e m gives = record {
  leads = λ node.
      Does
      (at-once-steps k pid call (number_in (Some e.reply))
      (never-waits k pid m.alive call (number_in (Some e.reply)) e gives)
      ∙ steps-by k pid call e m gives);
}

-- an effect of a call that may be made is an entry
pub enters-by : (k : Kernel) (pid : ℕ) (call : Call) (e : Effect) (made : Option Name) (m : MayMake k pid call)
    → effect k pid m.alive call (number_in (Some e.reply)) ≡ Some e
    → ((kind : Kind) → used_of e.kernel kind ≡ used_after made kind (used_of k kind))
    → Enters k pid call e.reply made (finished e.kernel pid)
enters-by k pid call e made m gives used =
    let like = finished-is-like e.kernel pid
    in record { makes = makes-by k pid call e m gives; used = λ kind. like.used kind ∙ used kind }

-- what an effect leaves of the keys, its entry leaves
pub size-is : (j k : Kernel) (id : ℕ) → j.sets ≡ k.sets → set_size j id ≡ set_size k id
size-is j k id same =
    ap (λ sets. option_map_or (λ set. length set.semaphores) (get sets id) 0) same

-- keys that are kept are so once the call is over
pub keys-finished : (k j : Kernel) (pid : ℕ) → KeepsKeys k j → KeepsKeys k (finished j pid)
keys-finished k j pid h =
    let like = finished-is-like j pid
    in record {
      queues = λ key. ap (λ keys. get keys key) like.queue_keys ∙ h.queues key;
      sets = λ key. ap (λ keys. get keys key) like.set_keys ∙ h.sets key;
      sizes = λ key id bound. size-is (finished j pid) j id like.sets ∙ h.sizes key id bound;
    }

-- the same kernel keeps its keys
pub keys-same : (k : Kernel) → KeepsKeys k k
keys-same k = record { queues = λ key. refl; sets = λ key. refl; sizes = λ key id bound. refl }
