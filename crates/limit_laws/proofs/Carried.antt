-- A call is carried out on the deeds that a node holds: what it changes is within the limits, and so is its reply.
use Rattle.std.proofs.Common.{◌≡◌, Option, Some, None, ℕ, Bool, true, false, refl, ◌<◌, ◌≤◌, length, List, [], ◌∷◌, is_some, map, ap}
use Rattle.std.proofs.lemmas.Bool.{false≢true, and_parts}
use Rattle.std.specs.List.{AllByRecursion, list_all, list_any}
use Rattle.frame_bytes.specs.Fields.{name_number}
use Rattle.frame_bytes.specs.Limits.{is_deed, is_nonzero}
use Rattle.kernel_laws.proofs.Plain.{by_test, Of, of-next, of-map, of-test, of-some}
use Rattle.kernel_laws.proofs.Lists.{all-both}
use Rattle.kernel_model.specs.Queue.{Queue}
use Rattle.kernel_model.specs.Row.{Row, Family, Waited, Found, NotYet, NoChild, lists, ignores_children, family_after_end, first_ended_child, matches}
use Rattle.kernel_model.specs.SemaphoreSet.{SemaphoreSet}
use Rattle.limit_laws.proofs.Lengths.{nonzero-is-some}
use Rattle.limit_laws.proofs.Named.{AreChangesWithin, deeds-get}
use Rattle.limit_laws.proofs.Replied.{IsShort, effect-is-short}
use Rattle.limit_laws.proofs.Served.{no-family-within, family-ended-within, reaped-within, IsFoundWithin, found-within, first-ended-within, IsChildNumbered, IsEffectWithin, HasRooms, effect-within}
use Rattle.limit_laws.proofs.Tables.{all-put, all-get}
use Rattle.limit_laws.specs.Bodies.{IsFamilyWithin, IsPersonWithin, IsKernelWithin, IsQueueWithin, IsSetWithin}
use Rattle.limit_laws.specs.Within.{IsDeedWithin, AreDeedsWithin, IsBodyWithin, IsReplyShort, IsWakeWithin}
use Rattle.node_model.specs.Bodies.{Body, Living, Ended, Gone, Deeds, AQueue, ASet, Removed, kernel_with, empty_kernel, waiters_of, whole_in, whole_process, whole_queue, whole_set}
use Rattle.node_model.specs.Carrying.{is_own_home, is_removal}
use Rattle.node_model.specs.Kinds.{number_of, get_named}
use Rattle.node_model.specs.Parcels.{Committed, fitting_bodies, commit_exit, committed, ending_of, has_own_row, lets_end, fits_bodies, all_gone, fits_if, found_names, kernel_after_end, names_after_end, parent_with, parked_in, read_deeds, are_rising, numbered_body, with_body}
use Rattle.node_model.specs.Serving.{Served, serve, name_for, serve_on, parts_in, makes_something, serve_at, actor, changed_names, serve_by}
use Rattle.node_model.specs.Spelling.{read_deed}
use Rattle.number_maps.specs.Maps.{Numbered, get, put}
use Rattle.pico_base.specs.Home.{home_of}
use Rattle.pico_base.specs.declared.call.Call.{Call}
use Rattle.pico_base.specs.declared.call.Home.TheVariants as homes
use Rattle.pico_base.specs.declared.call.Home.{Home}
use Rattle.pico_base.specs.declared.numbers.Name.TheVariants.{Proc, Msg, Sem}
use Rattle.pico_base.specs.declared.numbers.Name.{Name}
use Rattle.pico_base.specs.declared.reply.EndedChild.{EndedChild}
use Rattle.pico_base.specs.declared.reply.Ending.{Ending}
use Rattle.pico_base.specs.declared.reply.Reply.TheVariants as replies
use Rattle.pico_base.specs.declared.reply.Reply.{Reply}
use Rattle.rpc_frame.specs.declared.deed.PackedDeed.{PackedDeed}
use Rattle.rpc_frame.specs.declared.deed.Parcel.{Parcel}
use Rattle.waiter_fields.specs.Waiters.{max_waiters}
use Rattle.waiting_model.specs.Kernel as kernel
use Rattle.waiting_model.specs.Kernel.{Kernel, Process}
use Rattle.waiting_model.specs.Marks.{Alive, awaited_children, with_family}
use Rattle.waiting_model.specs.ProcessCalls.{after_waiting, bury_found, found_after_end, found_for, parent_after_end, process_after_end, raise_chld, wakes_of_parent, wakes_under}
use Rattle.waiting_model.specs.Transition.{effect}
use Rattle.waiting_model.specs.Waiters.{Awaited}
use Rattle.waiting_model.specs.declared.callers.Wake.{Wake}
use Rattle.waiting_model.specs.declared.callers.Waiting.{Waiting}
use Rattle.world_model.specs.Calls.{is_for_others}

module _ (own most : ℕ) where
  abbrev BodyIs : Name → Body → Type 0
  BodyIs name body = IsBodyWithin own most name body

  -- ---- a kernel with one name

  one-name : (name : Name) (body : Body) → BodyIs name body → IsKernelWithin own most (kernel_with name body)
  one-name (Proc pid) (Living row) h = record { processes = (h, tt); queues = tt; sets = tt }
  one-name (Proc pid) (Ended ending) h = record { processes = (tt, tt); queues = tt; sets = tt }
  one-name (Proc pid) Gone h = record { processes = (tt, tt); queues = tt; sets = tt }
  one-name (Proc pid) (AQueue q) h = absurd h
  one-name (Proc pid) (ASet s) h = absurd h
  one-name (Proc pid) Removed h = absurd h
  one-name (Msg id) (AQueue q) h = record { processes = tt; queues = (h, tt); sets = tt }
  one-name (Msg id) Removed h = record { processes = tt; queues = tt; sets = tt }
  one-name (Msg id) (Living row) h = absurd h
  one-name (Msg id) (Ended ending) h = absurd h
  one-name (Msg id) Gone h = absurd h
  one-name (Msg id) (ASet s) h = absurd h
  one-name (Sem id) (ASet s) h = record { processes = tt; queues = tt; sets = (h, tt) }
  one-name (Sem id) Removed h = record { processes = tt; queues = tt; sets = tt }
  one-name (Sem id) (Living row) h = absurd h
  one-name (Sem id) (Ended ending) h = absurd h
  one-name (Sem id) Gone h = absurd h
  one-name (Sem id) (AQueue q) h = absurd h

  actor-within : (name : Name) (body : Body) → BodyIs name body → IsFamilyWithin most (actor body).row.family
  actor-within (Proc pid) (Living row) h = h.1
  actor-within (Msg id) (Living row) h = absurd h
  actor-within (Sem id) (Living row) h = absurd h
  actor-within name (Ended ending) h = no-family-within most
  actor-within name Gone h = no-family-within most
  actor-within name (AQueue q) h = no-family-within most
  actor-within name (ASet s) h = no-family-within most
  actor-within name Removed h = no-family-within most

  -- there is room where the name's body has room
  one-name-has-rooms : (name : Name) (body : Body) → BodyIs name body → length (waiters_of body) < max_waiters
      → HasRooms (kernel_with name body)
  one-name-has-rooms (Proc pid) body h room = record { queues = tt; sets = tt }
  one-name-has-rooms (Msg id) (AQueue q) h room = record { queues = (room, tt); sets = tt }
  one-name-has-rooms (Msg id) Removed h room = record { queues = tt; sets = tt }
  one-name-has-rooms (Msg id) (Living row) h room = absurd h
  one-name-has-rooms (Msg id) (Ended ending) h room = absurd h
  one-name-has-rooms (Msg id) Gone h room = absurd h
  one-name-has-rooms (Msg id) (ASet s) h room = absurd h
  one-name-has-rooms (Sem id) (ASet s) h room = record { queues = tt; sets = (room, tt) }
  one-name-has-rooms (Sem id) Removed h room = record { queues = tt; sets = tt }
  one-name-has-rooms (Sem id) (Living row) h room = absurd h
  one-name-has-rooms (Sem id) (Ended ending) h room = absurd h
  one-name-has-rooms (Sem id) Gone h room = absurd h
  one-name-has-rooms (Sem id) (AQueue q) h room = absurd h

  -- ---- a name's part of a kernel

  process-part : (k : Kernel) (pid : ℕ) (o : Option Process) → IsKernelWithin own most k → get k.processes pid ≡ o
      → BodyIs (Proc pid) (whole_process o)
  process-part k pid None h is = tt
  process-part k pid (Some (kernel.Living a)) h is =
      all-get (IsPersonWithin own most) k.processes pid (kernel.Living a) h.processes is
  process-part k pid (Some (kernel.Ended ending)) h is = tt
  process-part k pid (Some kernel.Gone) h is = tt

  queue-part : (k : Kernel) (id : ℕ) (o : Option (Awaited Queue)) → IsKernelWithin own most k → get k.queues id ≡ o
      → BodyIs (Msg id) (whole_queue o)
  queue-part k id None h is = tt
  queue-part k id (Some q) h is = all-get (λ (e : ℕ × Awaited Queue). IsQueueWithin e.1) k.queues id q h.queues is

  set-part : (k : Kernel) (id : ℕ) (o : Option (Awaited SemaphoreSet)) → IsKernelWithin own most k
      → get k.sets id ≡ o → BodyIs (Sem id) (whole_set o)
  set-part k id None h is = tt
  set-part k id (Some s) h is = all-get (λ (e : ℕ × Awaited SemaphoreSet). IsSetWithin e.1) k.sets id s h.sets is

  -- Each name's part of a kernel within the limits is.
  pub part-within : (k : Kernel) (name : Name) → IsKernelWithin own most k → BodyIs name (whole_in k name)
  part-within k (Proc pid) h = process-part k pid (get k.processes pid) h refl
  part-within k (Msg id) h = queue-part k id (get k.queues id) h refl
  part-within k (Sem id) h = set-part k id (get k.sets id) h refl

  changed-within : (k : Kernel) (name : Name) (reply : Option Reply) → IsKernelWithin own most k
      → 1 ≤ number_of name → IsChildNumbered reply → AreChangesWithin own most (parts_in k (changed_names name reply))
  changed-within k name (Some (replies.Child child ending)) h low numbered =
      ((low, part-within k name h), ((numbered, part-within k (Proc child) h), tt))
  changed-within k name reply h low numbered = ((low, part-within k name h), tt)

  -- ---- a call that is served

  -- its changes are within the limits, and so are its reply, if others carry the call out, and those of who is woken
  pub record IsServedWithin (who : Waiting) (s : Served) : Type 0 where
    pub changes : AreChangesWithin own most s.changes
    pub reply : is_for_others (home_of who.pid who.call) ≡ true → Of IsReplyShort s.own
    pub wakes : AllByRecursion IsWakeWithin s.wakes

  -- one more can wait where this body is, unless the call is a removal
  abbrev pub HasRoomFor : Waiting → Body → Type 0
  HasRoomFor who body = is_removal who.call ≡ false → length (waiters_of body) < max_waiters

  module _ (who : Waiting) (ticket : 1 ≤ who.ticket)
      (own_is : is_own_home (home_of who.pid who.call) ≡ true → who.pid ≡ own) where
    serve-on-within : (name : Name) (body : Body) → IsDeedWithin own most name body
        → makes_something who.call ≡ false → is_some (name_for who.pid who.call) ≡ true → HasRoomFor who body
        → Of (IsServedWithin who) (serve_on name body who)
    serve-on-within name body h makes named room =
        let k : Kernel = kernel_with name body
        in let within : IsKernelWithin own most k = one-name name body h.1
        in of-map (IsServedWithin who) (effect k who (actor body) 0) (serve_by name body who)
        (λ e is.
        let left : IsEffectWithin own most e =
        of-some (IsEffectWithin own most) (effect k who (actor body) 0) e
        (effect-within own most k who (actor body) within (actor-within name body h.1) ticket makes named own_is
        (λ stays. one-name-has-rooms name body h.1 (room stays))) is
        in record {
          changes = changed-within e.kernel name e.own left.kernel h.0 left.child;
          reply = λ others.
              of-some IsShort (effect k who (actor body) 0) e
              (effect-is-short k
              (λ id q there. all-get (λ (x : ℕ × Awaited Queue). IsQueueWithin x.1) k.queues id q within.queues there)
              (λ id s there. all-get (λ (x : ℕ × Awaited SemaphoreSet). IsSetWithin x.1) k.sets id s within.sets there)
              who (actor body) 0 others) is;
          wakes = left.wakes;
        })

    serve-at-within : (deeds : Deeds) (o : Option Name) → name_for who.pid who.call ≡ o
        → AreDeedsWithin own most deeds → makes_something who.call ≡ false
        → ((name : Name) (body : Body) → o ≡ Some name → get_named deeds name ≡ Some body → HasRoomFor who body)
        → Of (IsServedWithin who) (serve_at deeds who o)
    serve-at-within deeds None is all makes room = tt
    serve-at-within deeds (Some name) is all makes room =
        of-next (IsServedWithin who) (get_named deeds name) (λ body. serve_on name body who)
        (λ body there.
        serve-on-within name body (deeds-get own most deeds name body all there) makes (ap is_some is)
        (room name body refl there))

    -- What a call leaves of the deeds is within the limits, and so is its reply if others carry it out.
    pub serve-within : (deeds : Deeds) → AreDeedsWithin own most deeds
        → ((name : Name) (body : Body) → name_for who.pid who.call ≡ Some name → get_named deeds name ≡ Some body
        → HasRoomFor who body)
        → Of (IsServedWithin who) (serve deeds who)
    serve-within deeds all room =
        by_test (Of (IsServedWithin who)) (makes_something who.call) None
        (serve_at deeds who (name_for who.pid who.call)) (λ _. tt)
        (λ makes. serve-at-within deeds (name_for who.pid who.call) refl all makes room)

-- a call that others carry out isn't one's own
pub others-not-own : {A : Type 0} (home : Home) → is_for_others home ≡ true → is_own_home home ≡ true → A
others-not-own homes.Own others own = absurd (false≢true others)
others-not-own homes.Keys others own = absurd (false≢true own)
others-not-own homes.Parent others own = absurd (false≢true own)
others-not-own (homes.At name) others own = absurd (false≢true own)
others-not-own (homes.Removal name) others own = absurd (false≢true own)

-- ---- an end that is carried out

-- processes with numbers are gone
pub numbered-are-gone : (own most : ℕ) (pids : List ℕ) → AllByRecursion (λ (n : ℕ). 1 ≤ n) pids
    → AreChangesWithin own most (all_gone pids)
numbered-are-gone own most [] all = tt
numbered-are-gone own most (pid ∷ pids) all = ((all.0, tt), numbered-are-gone own most pids all.1)

abbrev Numbers : Numbered Body → Type 0
Numbers bodies = AllByRecursion (λ (e : ℕ × Body). 1 ≤ e.0) bodies

-- a process's numbers are those of its deeds, which have spellings
read-are-numbered : (deeds : List PackedDeed) → list_all is_deed deeds ≡ true
    → Of Numbers (read_deeds deeds)
read-are-numbered [] h = tt
read-are-numbered (deed ∷ deeds) h =
    let w = and_parts (is_deed deed) (list_all is_deed deeds) h
    in let first = and_parts (is_nonzero (name_number deed.name)) _ w.0
    in of-next Numbers (numbered_body deed deed.name) (with_body (read_deeds deeds))
    (λ e is. with-one (read_deeds deeds) e (read-are-numbered deeds w.1)
    (of-some (λ (x : ℕ × Body). 1 ≤ x.0) (numbered_body deed deed.name) e (numbered deed.name first.0) is))
  where
    numbered : (name : Name) → is_nonzero (name_number name) ≡ true
        → Of (λ (x : ℕ × Body). 1 ≤ x.0) (numbered_body deed name)
    numbered (Proc pid) g =
        of-map (λ (x : ℕ × Body). 1 ≤ x.0) (read_deed deed) (λ body. (pid, body))
        (λ body _. nonzero-is-some (Proc pid) g)
    numbered (Msg id) g = tt
    numbered (Sem id) g = tt

    with-one : (o : Option (Numbered Body)) (e : ℕ × Body) → Of Numbers o → 1 ≤ e.0 → Of Numbers (with_body o e)
    with-one None e all low = tt
    with-one (Some bodies) e all low = (low, all)

abbrev Fits : Parcel → Numbered Body → Type 0
Fits parcel bodies = Numbers bodies × (has_own_row parcel.call (get bodies parcel.pid) ≡ true)

fitting-are-numbered : (deeds : Deeds) (parcel : Parcel) (bodies : Numbered Body)
    → list_all is_deed parcel.deeds ≡ true → fitting_bodies deeds parcel ≡ Some bodies
    → Fits parcel bodies
fitting-are-numbered deeds parcel bodies h is = of-some (Fits parcel) (fitting_bodies deeds parcel) bodies all is
  where
    all : Of (Fits parcel) (fitting_bodies deeds parcel)
    all =
        of-next (Fits parcel) (read_deeds parcel.deeds) (fits_if deeds parcel)
        (λ x there. of-test (Fits parcel) (fits_bodies deeds parcel x) (Some x)
        (λ fits. (
          of-some Numbers (read_deeds parcel.deeds) x (read-are-numbered parcel.deeds h) there,
          (and_parts (has_own_row parcel.call (get x parcel.pid)) _
              (and_parts (are_rising x) _ fits).1).0,
        )))

own-is-numbered : (bodies : Numbered Body) (call : Call) (pid : ℕ)
    → Numbers bodies → has_own_row call (get bodies pid) ≡ true → 1 ≤ pid
own-is-numbered bodies call pid all h = by (get bodies pid) refl h
  where
    by : (o : Option Body) → get bodies pid ≡ o → has_own_row call o ≡ true → 1 ≤ pid
    by None is g = absurd (false≢true g)
    by (Some body) is g = all-get (λ (e : ℕ × Body). 1 ≤ e.0) bodies pid body all is

first-numbers : (bodies : Numbered Body) → Numbers bodies
    → AllByRecursion (λ (n : ℕ). 1 ≤ n) (map (λ e. e.0) bodies)
first-numbers [] all = tt
first-numbers (e ∷ bodies) all = (all.0, first-numbers bodies all.1)

-- ---- a parent after an end

-- what a parked parent finds has a number
found-has-number : (f : Family) (o : Option (Option ℕ)) → AllByRecursion (λ (e : EndedChild). 1 ≤ e.pid) f.ended
    → IsFoundWithin (found_for f o)
found-has-number f None all = tt
found-has-number f (Some which) all =
    found-within (first_ended_child which f.ended) (list_any (matches which) f.living)
    (first-ended-within which f.ended all)

after-waiting-within : (most : ℕ) (a : Alive) (w : Waited) → IsFamilyWithin most a.row.family
    → IsFamilyWithin most (after_waiting a w).row.family
after-waiting-within most a (Found child ending) h = reaped-within most child a.row.family h
after-waiting-within most a NotYet h = h
after-waiting-within most a NoChild h = h

raised-within : (most : ℕ) (ignored : Bool) (a : Alive) → IsFamilyWithin most a.row.family
    → IsFamilyWithin most (raise_chld ignored a).row.family
raised-within most true a h = h
raised-within most false a h = h

module _ (own most : ℕ) where
  module _ (pid parent : ℕ) (waits : Option Call) (row : Row) (ending : Ending) (own_is : parent ≡ own)
      (low : 1 ≤ pid) (listed : lists row.family pid ≡ true) (family : IsFamilyWithin most row.family) where
    abbrev bereft : Family
    bereft = family_after_end row.family pid ending (ignores_children row)

    bereft-within : IsFamilyWithin most bereft
    bereft-within = family-ended-within most pid row.family ending (ignores_children row) low listed family

    abbrev found : Waited
    found = found_after_end (parked_in waits row) pid ending

    found-is-numbered : IsFoundWithin found
    found-is-numbered = found-has-number bereft (awaited_children waits) bereft-within.ended

    over-within : (ignored : Bool) → IsPersonWithin own most (pid, process_after_end ignored ending)
    over-within true = tt
    over-within false = tt

    buried-within : (ps : Numbered Process) (w : Waited) → AllByRecursion (IsPersonWithin own most) ps
        → AllByRecursion (IsPersonWithin own most) (bury_found ps w)
    buried-within ps (Found child ended) all = all-put (IsPersonWithin own most) ps child kernel.Gone tt all
    buried-within ps NotYet all = all
    buried-within ps NoChild all = all

    parent-within : IsFamilyWithin most (parent_after_end (parked_in waits row) pid ending).row.family
    parent-within =
        let a : Alive = with_family (parked_in waits row) bereft
        in raised-within most (ignores_children row) (after_waiting a found)
        (after-waiting-within most a found bereft-within)

    after-end-within : IsKernelWithin own most (kernel_after_end pid parent waits (Living row) ending)
    after-end-within =
        record {
          processes =
              all-put (IsPersonWithin own most)
              (bury_found (put [] pid (process_after_end (ignores_children row) ending)) found) parent
              (kernel.Living (parent_after_end (parked_in waits row) pid ending)) (own_is, parent-within)
              (buried-within (put [] pid (process_after_end (ignores_children row) ending)) found
              (all-put (IsPersonWithin own most) [] pid (process_after_end (ignores_children row) ending)
              (over-within (ignores_children row)) tt));
          queues = tt;
          sets = tt;
        }

    -- the child that the parent is woken with, if there is one, is gone
    found-parts : (k : Kernel) (w : Waited) → IsKernelWithin own most k → IsFoundWithin w
        → AreChangesWithin own most (parts_in k (found_names (wakes_of_parent parent w)))
    found-parts k (Found child ended) h numbered = ((numbered, part-within own most k (Proc child) h), tt)
    found-parts k NotYet h numbered = tt
    found-parts k NoChild h numbered = tt

  gone-within : (pid : ℕ) → IsKernelWithin own most (record empty_kernel { processes = put [] pid kernel.Gone })
  gone-within pid = record { processes = (tt, tt); queues = tt; sets = tt }

  ended-parts : (pid parent : ℕ) (waits : Option Call) (body : Body) (ending : Ending)
      → IsDeedWithin own most (Proc parent) body → 1 ≤ pid → lets_end pid body ≡ true
      → AreChangesWithin own most
      (parts_in (kernel_after_end pid parent waits body ending)
      (names_after_end pid parent (wakes_under pid ending (parent_with parent waits body)) body))
  ended-parts pid parent waits (Living row) ending h low lets =
      let after : Kernel = kernel_after_end pid parent waits (Living row) ending
      in let k : IsKernelWithin own most after =
      after-end-within pid parent waits row ending (h.1).0 low lets (h.1).1
      in (
        (low, part-within own most after (Proc pid) k),
        (
          (h.0, part-within own most after (Proc parent) k),
          found-parts pid parent waits row ending (h.1).0 low lets (h.1).1 after
              (found_after_end (parked_in waits row) pid ending) k
              (found-is-numbered pid parent waits row ending (h.1).0 low lets (h.1).1),
        ),
      )
  ended-parts pid parent waits body ending h low lets = (
    (
      low,
      part-within own most (kernel_after_end pid parent waits body ending) (Proc pid) (gone-within pid),
    ),
    tt,
  )

  -- What the end of a process changes where its parent's deed is held is within the limits.
  pub exit-within : (deeds : Deeds) (parcel : Parcel) (bodies : Numbered Body) (waits : Option Call) (parent : Body)
      → AreDeedsWithin own most deeds → list_all is_deed parcel.deeds ≡ true
      → fitting_bodies deeds parcel ≡ Some bodies → get_named deeds (Proc parcel.parent) ≡ Some parent
      → Of (λ (c : Committed). AreChangesWithin own most c.changes) (commit_exit parcel bodies waits parent)
  exit-within deeds parcel bodies waits parent all h fits there =
      let numbered = fitting-are-numbered deeds parcel bodies h fits
      in let low = own-is-numbered bodies parcel.call parcel.pid numbered.0 numbered.1
      in let ending : Ending = ending_of parcel.call
      in let wakes : List Wake = wakes_under parcel.pid ending (parent_with parcel.parent waits parent)
      in of-test (λ (c : Committed). AreChangesWithin own most c.changes) (lets_end parcel.pid parent)
      (Some (committed parcel bodies waits parent wakes))
      (λ lets. all-both (λ (p : Name × Body). IsDeedWithin own most p.0 p.1) (all_gone (map (λ e. e.0) bodies))
      (parts_in (kernel_after_end parcel.pid parcel.parent waits parent ending)
      (names_after_end parcel.pid parcel.parent wakes parent))
      (numbered-are-gone own most (map (λ e. e.0) bodies) (first-numbers bodies numbered.0))
      (ended-parts parcel.pid parcel.parent waits parent ending
      (deeds-get own most deeds (Proc parcel.parent) parent all there) low lets))
