-- Each entry keeps a kernel valid in which no process lists itself.
use Rattle.std.proofs.Common.{◌≡◌, ℕ, true, Option, Some, None, refl, sym, subst, ◌∙◌}
use Rattle.std.specs.Prelude.{is_some}
use Rattle.std.proofs.lemmas.Bool.{false_from_ne_true}
use Rattle.number_maps.specs.Maps.{Numbered, get}
use Rattle.kernel_model.specs.Row.{Alive, lists}
use Rattle.kernel_model.specs.Queue.{Queue}
use Rattle.kernel_model.specs.SemaphoreSet.{SemaphoreSet}
use Rattle.kernel_model.specs.Kernel.{Kernel, Process, Living, living_in}
use Rattle.kernel_model.specs.Valid.{IsValid}
use Rattle.kernel_laws.specs.Processes.{NoneListsItself, EntriesKeepValidity}
use Rattle.kernel_laws.proofs.Plain.{not_true}
use Rattle.kernel_laws.proofs.Families.{IsLiving, Families}
use Rattle.kernel_laws.proofs.Living.{Strong}
use Rattle.kernel_laws.proofs.People.{from-living, to-living}
use Rattle.kernel_laws.proofs.ProcessLaws.{Settled, Midway, people-kept}
use Rattle.kernel_laws.proofs.QueueLaws.{QueueTable, QueueRule, queues-moves}
use Rattle.kernel_laws.proofs.SetLaws.{SetTable, SetRule, sets-moves}
use Rattle.kernel_laws.proofs.ValidLaws.{valid-from}
use Rattle.kernel_laws.proofs.Steps.{step}
use Rattle.kernel_laws.proofs.Moves.{after-call, after-step}

-- nothing is asked of a queue or a set here
abbrev AnyQueue : Queue → Type 0
AnyQueue q = Unit {0}

abbrev AnySet : SemaphoreSet → Type 0
AnySet s = Unit {0}

any-queue : QueueRule AnyQueue
any-queue = record {
  new = tt;
  sent = λ q pid class text next w h. tt;
  taken_from =
      λ q pid class size noerror r w h. tt;
  limited = λ q qbytes next w h. tt;
}

any-set : SetRule AnySet
any-set = record {
  new = λ count set h. tt;
  operated = λ set pid steps next w h. tt;
  one_set =
      λ set num value next w h. tt;
  filled = λ set values next w h. tt;
}

queues-valid : (k : Kernel) → IsValid k → QueueTable AnyQueue k
queues-valid k v =
    record {
      things_rise = v.queues;
      keys_rise = v.queue_keys.ordered;
      used_at = v.used_queues;
      lead = v.queue_keys.lead;
      apart = v.queue_keys.apart;
      each = λ n q l. tt;
    }

sets-valid : (k : Kernel) → IsValid k → SetTable AnySet k
sets-valid k v =
    record {
      things_rise = v.sets;
      keys_rise = v.set_keys.ordered;
      used_at = v.used_sets;
      lead = v.set_keys.lead;
      apart = v.set_keys.apart;
      each = λ n s l. tt;
    }

lives-found : (ps : Numbered Process) (c : ℕ) (o : Option Alive) → living_in ps c ≡ o → is_some o ≡ true
    → IsLiving (get ps) c
lives-found ps c None e h = not_true h
lives-found ps c (Some a) e h = record { alive = a; there = from-living ps c a e }

families-valid : (k : Kernel) → IsValid k → NoneListsItself k → Families (get k.processes)
families-valid k v alone =
    let ps = k.processes
    in record {
      living = λ p c l. lives-found ps c (living_in ps c) refl
          ((v.alive p l.alive (to-living ps p l.alive l.there)).living c l.listed);
      ended = λ p c e l. (v.alive p l.alive (to-living ps p l.alive l.there)).ended c e l.kept;
      one_parent = λ p q c l m.
          v.one_parent p q l.alive m.alive c (to-living ps p l.alive l.there)
          (to-living ps q m.alive m.there) l.listed m.listed;
      one_keeper = λ p q c d e l m.
          v.one_keeper p q l.alive m.alive c (to-living ps p l.alive l.there) (to-living ps q m.alive m.there)
          (d, l.kept) (e, m.kept);
      kept = λ c e l. let w =
          v.kept c e l in (
            w.keeper,
            record { alive = w.alive; there = from-living ps w.keeper w.alive w.lives; kept = w.kept },
          );
      alone = λ p l. not_true {B = ⊥} (sym (alone p l.alive (to-living ps p l.alive l.there)) ∙ l.listed);
    }

strong-valid : (k : Kernel) → IsValid k → (p : ℕ) (a : Alive) → get k.processes p ≡ Some (Living a) → Strong a
strong-valid k v p a l =
    let w = v.alive p a (to-living k.processes p a l) in record {
      sound = w.signals;
      free = w.allowed.0;
      undoomed =
          w.allowed.1;
    }

settled-valid : (k : Kernel) → IsValid k → NoneListsItself k → Settled k
settled-valid k v alone =
    record {
      body = record { rise = v.processes; used_is = v.used_processes; each = strong-valid k v };
      families = families-valid k v alone;
    }

none-lists : (k : Kernel) → Settled k → NoneListsItself k
none-lists k h pid a l =
    false_from_ne_true (lists a.row.family pid)
    (λ t. h.families.alone pid (record { alive = a; there = from-living k.processes pid a l; listed = t }))

-- every entry leads from a valid kernel to a valid one
pub entries_keep_validity_lemma : EntriesKeepValidity
entries_keep_validity_lemma k next pid call n outcome v alone t =
    let s = step k pid call n next outcome t
    in let m = after-call (Midway pid) k pid call n next outcome s
    (people-kept.moves k pid call n next outcome s (settled-valid k v alone))
    in let h : Settled next = subst Settled s.leads (people-kept.finishes pid s.result.kernel m)
    in let q : QueueTable AnyQueue next =
    after-step (QueueTable AnyQueue) k pid call n next outcome s
    (queues-moves AnyQueue any-queue k pid s.alive n (queues-valid k v)) (λ m a w l d. w)
    in let r : SetTable AnySet next =
    after-step (SetTable AnySet) k pid call n next outcome s
    (sets-moves AnySet any-set k pid s.alive n (sets-valid k v)) (λ m a w l d. w)
    in (valid-from AnyQueue AnySet next h q r, none-lists next h)
