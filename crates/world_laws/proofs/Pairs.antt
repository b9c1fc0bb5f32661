-- Where a call goes while it has no reply, and that its withdrawal, where it is, may still follow it and isn't in the
-- same stream or list.
use Rattle.std.proofs.Common.{◌≡◌, ◌≢◌, ℕ, Bool, true, false, ◌&&◌, nat_eq, refl, sym, ◌∙◌}
use Rattle.std.proofs.lemmas.Bool.{eqb-true, false≢true}
use Rattle.pico_base.specs.declared.numbers.Name.{Name}
use Rattle.world_laws.specs.Places.{CallPlace, AsksLease, HasLease, InAsk, InRequest, InNotOwner, SentByPlace, SentByRange, InBounce, IsHeld, IsInHand, Waits, CancelPlace, NoCancel, ToLeader, SentTo, CancelHeld, CancelInHand}
use Rattle.world_laws.specs.Callers.{IsBetween, is_held_at, is_in_hand, is_in_stream}
use Rattle.world_laws.specs.Cancels.{may_follow, cancel_held_at, cancel_in_hand, cancel_in_stream}

-- Where a call goes while it has no reply. One that a withdrawal may follow is a call on a queue or a set, which goes
-- from an Ask to the leader's hand, and from there to where it waits.
abbrev pub goes_on : CallPlace → CallPlace → Bool
goes_on InAsk IsInHand = true
goes_on IsInHand (SentByPlace h) = true
goes_on IsInHand (SentByRange h) = true
goes_on IsInHand (IsHeld name) = true
goes_on IsInHand (Waits name) = true
goes_on (SentByPlace h) (Waits name) = true
goes_on (SentByRange h) (Waits name) = true
goes_on (AsksLease kind) (HasLease other first) = true
goes_on (InRequest h) (InNotOwner from) = true
goes_on (InNotOwner h) InAsk = true
goes_on (InNotOwner h) IsInHand = true
goes_on (SentByRange h) (InBounce from) = true
goes_on (InBounce h) IsInHand = true
goes_on place next = false

-- a call that was sent by range waits now, so that its name is used
abbrev pub lands : CallPlace → CallPlace → Bool
lands (SentByRange h) (Waits name) = true
lands place next = false

-- where a call on a queue or a set that may have to wait may be while it has no reply
abbrev pub is_for_waiting : CallPlace → Bool
is_for_waiting InAsk = true
is_for_waiting IsInHand = true
is_for_waiting (SentByPlace h) = true
is_for_waiting (SentByRange h) = true
is_for_waiting (IsHeld name) = true
is_for_waiting (Waits name) = true
is_for_waiting place = false

-- the call and its withdrawal are in streams, lists or hands alike
abbrev pub together : CancelPlace → CallPlace → Bool
together ToLeader InAsk = true
together (SentTo to) (SentByPlace h) = true
together (SentTo to) (SentByRange h) = true
together (CancelHeld name) (IsHeld other) = true
together CancelInHand IsInHand = true
together elsewhere call = false

-- the withdrawal may follow the call, and isn't where that is
pub record IsApart (cancel : CancelPlace) (call : CallPlace) : Type 0 where
  pub pair : may_follow cancel call ≡ true
  pub apart : together cancel call ≡ false

-- A call that goes on leaves its withdrawal behind.
pub goes-apart : (cancel : CancelPlace) (place next : CallPlace) → is_for_waiting place ≡ true
    → is_for_waiting next ≡ true → goes_on place next ≡ true → may_follow cancel place ≡ true
    → IsApart cancel next
goes-apart NoCancel place next w v g f = record { pair = refl; apart = refl }
goes-apart ToLeader place next w v g f = to-leader place next w v g
  where
    to-leader : (place next : CallPlace) → is_for_waiting place ≡ true → is_for_waiting next ≡ true
        → goes_on place next ≡ true
        → IsApart ToLeader next
    to-leader place (SentByPlace h) w v g = record { pair = refl; apart = refl }
    to-leader place (SentByRange h) w v g = record { pair = refl; apart = refl }
    to-leader place (IsHeld name) w v g = record { pair = refl; apart = refl }
    to-leader place IsInHand w v g = record { pair = refl; apart = refl }
    to-leader place (Waits name) w v g = record { pair = refl; apart = refl }
    to-leader (InNotOwner h) InAsk w v g = absurd (false≢true w)
    to-leader InAsk InAsk w v g = absurd (false≢true g)
    to-leader IsInHand InAsk w v g = absurd (false≢true g)
    to-leader (SentByPlace h) InAsk w v g = absurd (false≢true g)
    to-leader (SentByRange h) InAsk w v g = absurd (false≢true g)
    to-leader (IsHeld name) InAsk w v g = absurd (false≢true g)
    to-leader (Waits name) InAsk w v g = absurd (false≢true g)
    to-leader place InAsk w v g = absurd (false≢true w)
    to-leader place next w v g = absurd (false≢true v)
goes-apart (SentTo to) (SentByPlace h) next w v g f = sent next g
  where
    sent : (next : CallPlace) → goes_on (SentByPlace h) next ≡ true → IsApart (SentTo to) next
    sent (Waits name) g = record { pair = refl; apart = refl }
    sent next g = absurd (false≢true g)
goes-apart (SentTo to) (SentByRange h) next w v g f = sent next v g
  where
    sent : (next : CallPlace) → is_for_waiting next ≡ true → goes_on (SentByRange h) next ≡ true
        → IsApart (SentTo to) next
    sent (Waits name) v g = record { pair = refl; apart = refl }
    sent (InBounce from) v g = absurd (false≢true v)
    sent next v g = absurd (false≢true g)
goes-apart (SentTo to) (Waits name) next w v g f = absurd (false≢true g)
goes-apart (SentTo to) place next w v g f = absurd (false≢true f)
goes-apart (CancelHeld name) (SentByPlace h) next w v g f = sent next g
  where
    sent : (next : CallPlace) → goes_on (SentByPlace h) next ≡ true → IsApart (CancelHeld name) next
    sent (Waits other) g = record { pair = refl; apart = refl }
    sent next g = absurd (false≢true g)
goes-apart (CancelHeld name) (SentByRange h) next w v g f = sent next v g
  where
    sent : (next : CallPlace) → is_for_waiting next ≡ true → goes_on (SentByRange h) next ≡ true
        → IsApart (CancelHeld name) next
    sent (Waits other) v g = record { pair = refl; apart = refl }
    sent (InBounce from) v g = absurd (false≢true v)
    sent next v g = absurd (false≢true g)
goes-apart (CancelHeld name) (IsHeld other) next w v g f = absurd (false≢true g)
goes-apart (CancelHeld name) (Waits other) next w v g f = absurd (false≢true g)
goes-apart (CancelHeld name) place next w v g f = absurd (false≢true f)
goes-apart CancelInHand place next w v g f = in-hand place next w v g f
  where
    in-hand : (place next : CallPlace) → is_for_waiting place ≡ true → is_for_waiting next ≡ true
        → goes_on place next ≡ true → may_follow CancelInHand place ≡ true
        → IsApart CancelInHand next
    in-hand place (SentByPlace h) w v g f = record { pair = refl; apart = refl }
    in-hand place (SentByRange h) w v g f = record { pair = refl; apart = refl }
    in-hand place (IsHeld name) w v g f = record { pair = refl; apart = refl }
    in-hand place (Waits name) w v g f = record { pair = refl; apart = refl }
    in-hand InAsk IsInHand w v g f = absurd (false≢true f)
    in-hand (InNotOwner h) IsInHand w v g f = absurd (false≢true w)
    in-hand (InBounce h) IsInHand w v g f = absurd (false≢true w)
    in-hand place IsInHand w v g f = absurd (false≢true g)
    in-hand InAsk InAsk w v g f = absurd (false≢true g)
    in-hand IsInHand InAsk w v g f = absurd (false≢true g)
    in-hand (SentByPlace h) InAsk w v g f = absurd (false≢true g)
    in-hand (SentByRange h) InAsk w v g f = absurd (false≢true g)
    in-hand (IsHeld name) InAsk w v g f = absurd (false≢true g)
    in-hand (Waits name) InAsk w v g f = absurd (false≢true g)
    in-hand place InAsk w v g f = absurd (false≢true w)
    in-hand place next w v g f = absurd (false≢true v)

-- ---- so they aren't in one stream, list or hand

none-both : (b : Bool) → (b && false) ≡ false
none-both true = refl
none-both false = refl

-- a stream from the leader to another node isn't one to the leader
not-to-leader : (h to sender p : ℕ) → h ≢ 1
    → ((nat_eq to h && nat_eq sender 1) && (nat_eq to 1 && nat_eq sender p)) ≡ false
not-to-leader h to sender p other = by (nat_eq to h) (nat_eq to 1) refl refl
  where
    by : (t u : Bool) → nat_eq to h ≡ t → nat_eq to 1 ≡ u
        → ((t && nat_eq sender 1) && (u && nat_eq sender p)) ≡ false
    by true true e f = absurd (other (sym (eqb-true to h e) ∙ eqb-true to 1 f))
    by true false e f = none-both (nat_eq sender 1)
    by false u e f = refl

-- streams
pub apart-in-streams : (p : ℕ) (born : ℕ → Bool) (cancel : CancelPlace) (call : CallPlace) → IsApart cancel call
    → IsBetween p born call → (to sender : ℕ)
    → (is_in_stream call p to sender && cancel_in_stream cancel p to sender) ≡ false
apart-in-streams p born NoCancel call a between to sender = none-both (is_in_stream call p to sender)
apart-in-streams p born (CancelHeld name) call a between to sender = none-both (is_in_stream call p to sender)
apart-in-streams p born CancelInHand call a between to sender = none-both (is_in_stream call p to sender)
apart-in-streams p born ToLeader (SentByPlace h) a between to sender = not-to-leader h to sender p between
apart-in-streams p born ToLeader (SentByRange h) a between to sender = not-to-leader h to sender p between
apart-in-streams p born ToLeader (IsHeld name) a between to sender = refl
apart-in-streams p born ToLeader IsInHand a between to sender = refl
apart-in-streams p born ToLeader (Waits name) a between to sender = refl
apart-in-streams p born ToLeader InAsk a between to sender = absurd (false≢true (sym a.apart))
apart-in-streams p born ToLeader call a between to sender = absurd (false≢true a.pair)
apart-in-streams p born (SentTo node) (SentByPlace h) a between to sender = absurd (false≢true (sym a.apart))
apart-in-streams p born (SentTo node) (SentByRange h) a between to sender = absurd (false≢true (sym a.apart))
apart-in-streams p born (SentTo node) (Waits name) a between to sender = refl
apart-in-streams p born (SentTo node) call a between to sender = absurd (false≢true a.pair)

-- lists of what is held
pub apart-in-lists : (cancel : CancelPlace) (call : CallPlace) → IsApart cancel call → (name : Name)
    → (is_held_at call name && cancel_held_at cancel name) ≡ false
apart-in-lists (CancelHeld other) (IsHeld held) a name = absurd (false≢true (sym a.apart))
apart-in-lists (CancelHeld other) call a name = refl
apart-in-lists cancel call a name = none-both (is_held_at call name)

-- and the hand
pub apart-in-hand : (cancel : CancelPlace) (call : CallPlace) → IsApart cancel call
    → (is_in_hand call && cancel_in_hand cancel) ≡ false
apart-in-hand CancelInHand IsInHand a = absurd (false≢true (sym a.apart))
apart-in-hand CancelInHand call a = refl
apart-in-hand cancel call a = none-both (is_in_hand call)
