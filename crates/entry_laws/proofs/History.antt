-- One more entry in the history: it stays legal and fits the script, and the caller's place alone moves; a fork gives
-- the new process its place.
use Rattle.std.proofs.Common.{◌≡◌, ◌≢◌, ℕ, true, false, List, [], ◌∷◌, ◌++◌, Option, Some, None, refl, ap, sym, subst, ◌∙◌}
use Rattle.std.proofs.lemmas.Bool.{false≢true}
use Rattle.pico_base.specs.declared.call.Call.{Call}
use Rattle.pico_base.specs.declared.call.Call.TheVariants as calls
use Rattle.pico_base.specs.declared.reply.Reply.{Reply}
use Rattle.pico_base.specs.declared.reply.Reply.TheVariants as replies
use Rattle.pico_base.specs.declared.reply.Entry.{Entry}
use Rattle.pico_base.specs.declared.script.Script.{Script}
use Rattle.number_maps.specs.Maps.{get, put}
use Rattle.number_maps.specs.Rising.{IsRising}
use Rattle.number_maps.proofs.LookUps.{get-put-same, get-put-other}
use Rattle.number_maps.proofs.Rising.{rising-put}
use Rattle.kernel_model.specs.Kernel.{Kernel, opening}
use Rattle.kernel_model.specs.Effect.{reply_alone}
use Rattle.kernel_model.specs.Transition.{successor, transition}
use Rattle.kernel_model.specs.History.{Replays, number_in}
use Rattle.kernel_model.specs.Script.{is_fork}
use Rattle.kernel_model.specs.Fitting.{Place, Places, FitsFrom, HasReplyAlone, IsDue, block_at, block_place, child_vars, is_killed, move_on, opening_places, place_after, places_after, places_after_fork}
use Rattle.kernel_laws.specs.Reachable.{IsReachableKernel}
use Rattle.kernel_laws.proofs.ValidLaws.{children_have_one_parent_lemma, reachable_kernels_are_valid_lemma}
use Rattle.kernel_model.specs.Row.{Alive}
use Rattle.kernel_model.specs.Kernel.{living_at}
use Rattle.kernel_model.specs.Transition.{may_make}
use Rattle.waiting_model.specs.Linear.{LeadInLine, LeadsTo, Does, Counts, BreaksOff, at_once}
use Rattle.entry_laws.specs.Entering.{HasHistory, Makes, MayMake}
use Rattle.node_model.specs.Entries.{entry_by}

-- ---- what a history gives

-- the same kernel by a history where nobody waits
replayed : (k last : Kernel) (e : Entry) (next : Kernel) → LeadsTo k e next
    → (history : List Entry) × Replays next history last → (history : List Entry) × Replays k history last
replayed k last e next (Does step) rest = (
  record e { call = at_once e.call } ∷ rest.0,
  record { next = next; step = step; rest = rest.1 },
)
replayed k last e next (Counts n counts is step) rest = (
  record e { outcome = reply_alone (replies.Num 0) } ∷ rest.0,
  record { next = next; step = step; rest = rest.1 },
)
replayed k last e next (BreaksOff error parks broken is same) rest =
    (rest.0, subst (λ (j : Kernel). Replays j rest.0 last) same rest.1)

at-once-history : (k last : Kernel) (lines : List Entry) → LeadInLine k lines last
    → (history : List Entry) × Replays k history last
at-once-history k last [] h = ([], h)
at-once-history k last (e ∷ lines) h = replayed k last e h.next h.leads (at-once-history h.next last lines h.rest)

-- where lines lead to a kernel, entries of a legal history lead to it
pub history-reachable : (script : Script) (lines : List Entry) (k : Kernel) (places : Places)
    → HasHistory script lines k places → IsReachableKernel k
history-reachable script lines k places h = at-once-history opening k lines h.legal

-- a process that lives and may make a call, in the kernel that a history leads to
pub may-make-from : (script : Script) (journal : List Entry) (k : Kernel) (places : Places) (pid : ℕ) (call : Call)
    (a : Alive) → HasHistory script journal k places → living_at k pid ≡ Some a → may_make a call ≡ true
    → MayMake k pid call
may-make-from script journal k places pid call a h lives may =
    let reachable = history-reachable script journal k places h
    in record {
      valid = reachable_kernels_are_valid_lemma k reachable;
      alone = λ p b l. (children_have_one_parent_lemma k reachable p).not_itself b l;
      alive = a;
      lives = lives;
      may = may;
    }

-- ---- one more entry

-- a replay goes on by one entry
pub replays-more : (k mid next : Kernel) (entries : List Entry) (e : Entry) → Replays k entries mid
    → transition mid e.pid e.call (number_in e.outcome.own) ≡ Some (successor next e.outcome)
    → Replays k (entries ++ e ∷ []) next
replays-more k mid next [] e p t =
    record {
      next = next;
      step = subst (λ (x : Kernel). transition x e.pid e.call (number_in e.outcome.own)
          ≡ Some (successor next e.outcome)) (sym p) t;
      rest = refl;
    }
replays-more k mid next (f ∷ entries) e p t =
    record { next = p.next; step = p.step; rest = replays-more p.next mid next entries e p.rest t }

-- and so do lines
pub leads-more : (k mid next : Kernel) (lines : List Entry) (e : Entry) → LeadInLine k lines mid → LeadsTo mid e next
    → LeadInLine k (lines ++ e ∷ []) next
leads-more k mid next [] e p leads =
    record { next = next; leads = subst (λ (x : Kernel). LeadsTo x e next) (sym p) leads; rest = refl }
leads-more k mid next (f ∷ lines) e p leads =
    record { next = p.next; leads = p.leads; rest = leads-more p.next mid next lines e p.rest leads }

pub fits-more : (s : Script) (ps mid : Places) (entries : List Entry) (e : Entry) (place : Place)
    → FitsFrom s ps entries mid → get mid e.pid ≡ Some place → IsDue place e.call → HasReplyAlone e.outcome
    → FitsFrom s ps (entries ++ e ∷ []) (places_after s mid e place)
fits-more s ps mid [] e place p g d r =
    record {
      place = place;
      there = subst (λ (x : Places). get x e.pid ≡ Some place) (sym p) g;
      due = d;
      replied = r;
      rest = ap (λ (x : Places). places_after s x e place) p;
    }
fits-more s ps mid (f ∷ entries) e place p g d r =
    record {
      place = p.place;
      there = p.there;
      due = p.due;
      replied = p.replied;
      rest = fits-more s (places_after s ps f p.place) mid entries e place p.rest g d r;
    }

forked-ordered : (s : Script) (ps : Places) (place : Place) (call : Call) (reply : Option Reply) → IsRising ps
    → IsRising (places_after_fork s ps place call reply)
forked-ordered s ps place (calls.Fork block) (Some (replies.Num child)) r =
    rising-put ps child (block_place (block_at s block) (child_vars place)) r
forked-ordered s ps place (calls.Fork block) None r = r
forked-ordered s ps place (calls.Fork block) (Some reply) r = r
forked-ordered s ps place call reply r = r

-- a due call that the kernel makes goes on the history
pub history-goes-on : (script : Script) (journal : List Entry) (k : Kernel) (places : Places) (node pid : ℕ)
    (call : Call) (reply : Reply) (place : Place) (next : Kernel) → HasHistory script journal k places
    → get places pid ≡ Some place → IsDue place call → Makes k pid call reply next
    → HasHistory script (journal ++ entry_by node pid call reply ∷ []) next
    (places_after script places (entry_by node pid call reply) place)
history-goes-on script journal k places node pid call reply place next h there due makes =
    let e : Entry = entry_by node pid call reply
    in record {
      legal = leads-more opening k next journal e h.legal (makes.leads node);
      fits = fits-more script (opening_places script) places journal e place h.fits there due
          (record { reply = reply; alone = refl });
      ordered = forked-ordered script (put places pid (move_on place call (Some reply))) place call (Some reply)
          (rising-put places pid (move_on place call (Some reply)) h.ordered);
    }

-- ---- the places afterwards

-- no process begins with a call that isn't a fork
pub no-fork-places : (s : Script) (ps : Places) (place : Place) (call : Call) (reply : Option Reply)
    → is_fork call ≡ false → places_after_fork s ps place call reply ≡ ps
no-fork-places s ps place (calls.Fork block) reply h = absurd (false≢true (sym h))
no-fork-places s ps place call reply h = refl

-- a call that isn't the end of a doomed process moves the place by its reply
pub moved-is : (place : Place) (call : Call) (reply : Option Reply) → is_killed call ≡ false
    → move_on place call reply ≡ place_after place call reply
moved-is place call reply h = rw h refl

-- the caller's place moves
pub place-moves : (s : Script) (places : Places) (node pid : ℕ) (call : Call) (reply : Reply) (place : Place)
    → is_fork call ≡ false
    → get (places_after s places (entry_by node pid call reply) place) pid ≡ Some (move_on place call (Some reply))
place-moves s places node pid call reply place h =
    ap (λ ps. get ps pid)
    (no-fork-places s (put places pid (move_on place call (Some reply))) place call (Some reply) h)
    ∙ get-put-same places pid (move_on place call (Some reply))

-- and no other
pub places-stay : (s : Script) (places : Places) (node pid : ℕ) (call : Call) (reply : Reply) (place : Place) (p : ℕ)
    → is_fork call ≡ false → p ≢ pid
    → get (places_after s places (entry_by node pid call reply) place) p ≡ get places p
places-stay s places node pid call reply place p h apart =
    ap (λ ps. get ps p) (no-fork-places s (put places pid (move_on place call (Some reply))) place call (Some reply) h)
    ∙ get-put-other places pid (move_on place call (Some reply)) p apart

-- a fork moves the parent's place, begins the child's with its variables, and leaves the others
pub record ForkPlaces (s : Script) (places : Places) (pid block child : ℕ) (place : Place)
    (after : Places) : Type 0 where
  pub parent : get after pid ≡ Some (place_after place (calls.Fork block) (Some (replies.Num child)))
  pub child_is : get after child ≡ Some (block_place (block_at s block) (child_vars place))
  pub others : (p : ℕ) → p ≢ pid → p ≢ child → get after p ≡ get places p

-- what a fork leaves of the places
pub fork-places : (s : Script) (places : Places) (node pid block child : ℕ) (place : Place) → child ≢ pid
    → ForkPlaces s places pid block child place
    (places_after s places (entry_by node pid (calls.Fork block) (replies.Num child)) place)
fork-places s places node pid block child place apart =
    let then : Place = place_after place (calls.Fork block) (Some (replies.Num child))
    in let begins : Place = block_place (block_at s block) (child_vars place)
    in record {
      parent = get-put-other (put places pid then) child begins pid (λ same. apart (sym same))
          ∙ get-put-same places pid then;
      child_is = get-put-same (put places pid then) child begins;
      others = λ p not_parent not_child.
          get-put-other (put places pid then) child begins p not_child ∙ get-put-other places pid then p not_parent;
    }
