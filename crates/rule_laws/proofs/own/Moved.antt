-- Where calls are after an event: each where it was, or one in another place.
use Rattle.std.proofs.Common.{◌≡◌, ◌⊎◌, ℕ, Bool, true, false, nat_eq, if◌then◌else◌, refl, sym, subst}
use Rattle.pico_base.specs.declared.call.Home.{Home}
use Rattle.pico_base.specs.declared.call.Home.TheVariants as homes
use Rattle.pico_base.specs.declared.numbers.Name.{Name}
use Rattle.pico_base.specs.declared.reply.Reply.{Reply}
use Rattle.world_model.specs.Node.{Node, holds}
use Rattle.world_laws.specs.Places.{Beside, CallPlace, Idle, InAnswer, Parked, Waits, call_in}

-- the call is over, or its reply is on its way
pub data IsCarriedOut (place : CallPlace) : Type 0 where
  is_over : place ≡ Idle → IsCarriedOut place
  is_answered : (sender : ℕ) (reply : Reply) → place ≡ InAnswer sender reply → IsCarriedOut place

-- A call is where it was; or it waited at a queue or a set, and has its reply; or it waited for a child, and is over.
pub data IsStillOrWoken (before after : CallPlace) : Type 0 where
  is_still : before ≡ after → IsStillOrWoken before after
  is_woken : (name : Name) → before ≡ Waits name → IsCarriedOut after → IsStillOrWoken before after
  waited : before ≡ Parked → after ≡ Idle → IsStillOrWoken before after

-- One call is in another place, and this holds of that. Of the others some may be woken.
pub record IsMoved (before after : ℕ → CallPlace) (c : ℕ) (P : CallPlace → Type 0) : Type 0 where
  pub place : CallPlace
  pub calls : (y : ℕ) → IsStillOrWoken (call_in before c place y) (after y)
  pub fits : P place

-- it moves alone
pub moved-alone : (before after : ℕ → CallPlace) (c : ℕ) (P : CallPlace → Type 0) (place : CallPlace)
    → ((y : ℕ) → call_in before c place y ≡ after y) → P place → IsMoved before after c P
moved-alone before after c P place calls fits =
    record { place = place; calls = λ y. is_still (calls y); fits = fits }

-- each is where it was, or woken
abbrev pub AreStill : (ℕ → CallPlace) → (ℕ → CallPlace) → Type 0
AreStill before after = (y : ℕ) → IsStillOrWoken (before y) (after y)

-- Once a node has started a call that is over at once, or is in some place.
abbrev pub AfterRun : Beside → ℕ → (ℕ → CallPlace) → Type 0
AfterRun b p after = AreStill b.call after ⊎ IsMoved b.call after p (λ place. Unit {0})

-- a call that isn't served here: it is on a name that isn't held, or it removes one
abbrev pub IsNotServed : Node → Home → Type 0
IsNotServed n (homes.At name) = holds n name ≡ false
IsNotServed n home = Unit {0}

-- two changes of one call's place are one
pub twice-in : (call : ℕ → CallPlace) (c : ℕ) (first place : CallPlace) (y : ℕ)
    → call_in call c place y ≡ call_in (call_in call c first) c place y
twice-in call c first place y = by-test (nat_eq c y)
  where
    by-test : (t : Bool) → (if t then place else call y)
        ≡ (if t then place else (if t then first else call y))
    by-test true = refl
    by-test false = refl

-- A call that was first in one place and then in another is moved once.
pub moved-twice : (call after : ℕ → CallPlace) (c : ℕ) (first : CallPlace) (P : CallPlace → Type 0)
    → IsMoved (call_in call c first) after c P → IsMoved call after c P
moved-twice call after c first P m =
    record {
      place = m.place;
      calls = λ y. subst (λ x. IsStillOrWoken x (after y)) (sym (twice-in call c first m.place y)) (m.calls y);
      fits = m.fits;
    }
