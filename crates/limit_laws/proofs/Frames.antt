-- Frames about calls, numbers and names that are within the limits.
use Rattle.std.proofs.Common.{◌≡◌, ℕ, true, Some, refl, ◌≤◌, length, nat_lt, arith, subst, sym}
use Rattle.std.proofs.lemmas.Bool.{and_from, and_parts, false≢true, leb-true}
use Rattle.std.specs.List.{list_all}
use Rattle.frame_bytes.specs.Calls.{is_object}
use Rattle.frame_bytes.specs.Frames.{are_processes, frame_body, max_frame}
use Rattle.frame_bytes.specs.Limits.{is_frame, is_reply, is_last_call, is_deed, is_call, is_withdrawal, has_fields, are_deeds, is_nonzero}
use Rattle.limit_laws.proofs.Calls.{IsSpellable, call-is-within, call-is-short}
use Rattle.limit_laws.proofs.Lengths.{name-is-nonzero}
use Rattle.limit_laws.proofs.Plain.{some-nonzero, fields-are-frame}
use Rattle.limit_laws.specs.Within.{CanGoOn, IsItemWithin, IsReplyShort}
use Rattle.node_model.specs.Kinds.{number_of}
use Rattle.node_model.specs.declared.held.Held.TheVariants.{Request}
use Rattle.pico_base.specs.Home.{home_of}
use Rattle.pico_base.specs.declared.call.Call.TheVariants as calls
use Rattle.pico_base.specs.declared.call.Call.{Call}
use Rattle.pico_base.specs.declared.numbers.Kind.{Kind}
use Rattle.pico_base.specs.declared.numbers.Name.{Name}
use Rattle.pico_base.specs.declared.reply.Reply.{Reply}
use Rattle.rpc_frame.specs.declared.asked.Asked.{Asked}
use Rattle.rpc_frame.specs.declared.deed.Parcel.{Parcel}
use Rattle.rpc_frame.specs.declared.frame.Frame.TheVariants as frames
use Rattle.waiting_model.specs.Calls.{withdrawn_from}
use Rattle.world_model.specs.Calls.{is_for_others}

-- ---- a call that others carry out

-- what can be sent on has a ticket that isn't 0,
pub forwarded-has-ticket : (asked : Asked) → is_frame (frames.Forward asked) ≡ true → is_nonzero asked.ticket ≡ true
forwarded-has-ticket asked h =
    (and_parts (is_nonzero asked.ticket) (is_call asked.call)
    (and_parts (has_fields (frames.Forward asked)) _ h).0).0

-- can be held,
pub forwarded-is-held : (asked : Asked) → is_frame (frames.Forward asked) ≡ true → IsItemWithin (Request asked)
forwarded-is-held asked h = by asked.call (and_parts (is_nonzero asked.ticket) (is_call asked.call)
    (and_parts (has_fields (frames.Forward asked)) _ h).0).1 h
  where
    by : (call : Call) → is_call call ≡ true → is_frame (frames.Forward asked) ≡ true
        → CanGoOn asked (withdrawn_from call)
    by (calls.Withdraw name) fits can = absurd (false≢true fits)
    by call fits can = can

-- can be sent back,
pub forwarded-is-bounced : (asked : Asked) → is_frame (frames.Forward asked) ≡ true
    → is_frame (frames.Bounce asked) ≡ true
forwarded-is-bounced asked h = h

-- which can be sent on again,
pub bounced-is-forwarded : (asked : Asked) → is_frame (frames.Bounce asked) ≡ true
    → is_frame (frames.Forward asked) ≡ true
bounced-is-forwarded asked h = h

-- and can be asked for,
pub forwarded-is-asked : (asked : Asked) → is_frame (frames.Forward asked) ≡ true
    → is_frame (frames.Ask asked.ticket asked.pid asked.call) ≡ true
forwarded-is-asked asked h =
    let w = and_parts (has_fields (frames.Forward asked)) _ h
    in let short = leb-true (length (frame_body (frames.Forward asked))) max_frame w.1
    in fields-are-frame (frames.Ask asked.ticket asked.pid asked.call) w.0 (omega (arith, short))

-- also of an owner.
pub forwarded-is-requested : (asked : Asked) → is_frame (frames.Forward asked) ≡ true
    → is_frame (frames.Request asked.ticket asked.pid asked.call) ≡ true
forwarded-is-requested asked h =
    let w = and_parts (has_fields (frames.Forward asked)) _ h
    in let short = leb-true (length (frame_body (frames.Forward asked))) max_frame w.1
    in fields-are-frame (frames.Request asked.ticket asked.pid asked.call) w.0 (omega (arith, short))

-- A call that frames have room for can be sent on.
pub spellable-is-forwarded : (asked : Asked) → 1 ≤ asked.ticket → IsSpellable asked.call
    → is_for_others (home_of asked.pid asked.call) ≡ true → is_frame (frames.Forward asked) ≡ true
spellable-is-forwarded asked low spellable others =
    let short = call-is-short asked.call spellable
    in fields-are-frame (frames.Forward asked)
    (and_from (is_nonzero asked.ticket) (is_call asked.call) (some-nonzero asked.ticket low)
    (call-is-within asked.pid asked.call spellable others)) (omega (arith, short))

-- ---- the end of a wait

-- it has a ticket that isn't 0,
pub cancelled-has-ticket : (asked : Asked) → is_frame (frames.Cancel asked) ≡ true → is_nonzero asked.ticket ≡ true
cancelled-has-ticket asked h =
    (and_parts (is_nonzero asked.ticket) (is_withdrawal asked.call)
    (and_parts (has_fields (frames.Cancel asked)) _ h).0).0

-- and can be held.
pub cancelled-is-held : (asked : Asked) (name : Name) → withdrawn_from asked.call ≡ Some name
    → is_frame (frames.Cancel asked) ≡ true → IsItemWithin (Request asked)
cancelled-is-held asked name is h = subst (CanGoOn asked) (sym is) h

-- A call that waits at a queue or a set can be withdrawn.
pub withdrawal-is-frame : (caller ticket pid : ℕ) (name : Name) → 1 ≤ ticket → is_object name ≡ true
    → is_frame
    (frames.Cancel (record { caller = caller; ticket = ticket; pid = pid; call = calls.Withdraw name })) ≡ true
withdrawal-is-frame caller ticket pid name low object =
    fields-are-frame
    (frames.Cancel (record { caller = caller; ticket = ticket; pid = pid; call = calls.Withdraw name }))
    (and_from (is_nonzero ticket) (is_object name) (some-nonzero ticket low) object) (omega arith)

-- ---- replies

-- a short reply goes to who asked under a ticket
pub answer-is-frame : (ticket : ℕ) (reply : Reply) → is_nonzero ticket ≡ true → IsReplyShort reply
    → is_frame (frames.Answer ticket reply) ≡ true
answer-is-frame ticket reply nonzero h =
    let short = h.short
    in fields-are-frame (frames.Answer ticket reply) (and_from (is_nonzero ticket) (is_reply reply) nonzero h.within)
    (omega (arith, short))

-- so does the word that its name is elsewhere
pub not-owner-is-frame : (ticket : ℕ) → is_nonzero ticket ≡ true → is_frame (frames.NotOwner ticket) ≡ true
not-owner-is-frame ticket nonzero = fields-are-frame (frames.NotOwner ticket) nonzero (omega arith)

-- ---- numbers

-- a range is asked for
pub lease-ask-is-frame : (kind : Kind) → is_frame (frames.LeaseAsk kind) ≡ true
lease-ask-is-frame kind = fields-are-frame (frames.LeaseAsk kind) refl (omega arith)

-- and given
pub lease-is-frame : (kind : Kind) (first : ℕ) → is_frame (frames.Lease kind first) ≡ true
lease-is-frame kind first = fields-are-frame (frames.Lease kind first) refl (omega arith)

-- ---- names

-- the place of a name with a number is told
pub placed-is-frame : (name : Name) (node : ℕ) → 1 ≤ number_of name → is_frame (frames.Placed name node) ≡ true
placed-is-frame name node low =
    fields-are-frame (frames.Placed name node) (name-is-nonzero name low) (omega arith)

-- another place is suggested for it
pub suggest-is-frame : (name : Name) (node : ℕ) → 1 ≤ number_of name → is_frame (frames.Suggest name node) ≡ true
suggest-is-frame name node low =
    fields-are-frame (frames.Suggest name node) (name-is-nonzero name low) (omega arith)

-- it is asked back
pub recall-is-frame : (name : Name) → 1 ≤ number_of name → is_frame (frames.Recall name) ≡ true
recall-is-frame name low = fields-are-frame (frames.Recall name) (name-is-nonzero name low) (omega arith)

-- ---- lives

-- a process leaves
pub leaving-is-frame : (pid parent parent_node : ℕ) → is_frame (frames.Leaving pid parent parent_node) ≡ true
leaving-is-frame pid parent parent_node =
    fields-are-frame (frames.Leaving pid parent parent_node) refl (omega arith)

-- what is handed over can be sent on
pub left-is-exit : (parcel : Parcel) → is_frame (frames.Left parcel) ≡ true → is_frame (frames.ExitTo parcel) ≡ true
left-is-exit parcel h = h

-- and its deeds have spellings
pub exit-has-deeds : (parcel : Parcel) → is_frame (frames.ExitTo parcel) ≡ true → list_all is_deed parcel.deeds ≡ true
exit-has-deeds parcel h =
    let fields = and_parts (has_fields (frames.ExitTo parcel)) _ h
    in let deeds = and_parts (is_last_call parcel.call) (are_deeds parcel.deeds) fields.0
    in let count = and_parts (nat_lt (length parcel.deeds) 256) _ deeds.1
    in (and_parts (list_all is_deed parcel.deeds) (are_processes parcel.deeds) count.1).0
