-- What is owed in the middle of an event: that a signal interrupts one node's call.
use Rattle.std.proofs.Common.{◌≡◌, ◌≢◌, ℕ, Bool, true, false, is_some, refl, sym, ◌∙◌}
use Rattle.std.proofs.lemmas.Bool.{ne_eqb, false≢true}
use Rattle.world_laws.specs.Cancels.{CancelSight, CancelHolds, Owing, Nothing, is_owed, is_struck, owing_of}
use Rattle.world_laws.proofs.Cancels.{SameCancel, cancel-stays}

-- nothing is owed of another node's call
pub owed-of-others : (strikes : Bool) (p q : ℕ) → q ≢ p → is_owed (owing_of p strikes) q ≡ false
owed-of-others true p q d = ne_eqb p q (λ e. d (sym e))
owed-of-others false p q d = refl

itself : (x : CancelSight) → SameCancel x x
itself x =
    record {
      number = refl;
      pid = refl;
      caller = refl;
      call = refl;
      cancel = refl;
      cancels = λ to sender. refl;
      held_cancels = λ name. refl;
      hand_cancels = refl;
      of_call = λ to sender. refl;
      held_of_call = λ name. refl;
      hand_of_call = refl;
      nowhere = λ call e waits l. l;
    }

-- where the strike is another node's, nothing changes
pub owed-elsewhere : (strikes : Bool) (p q : ℕ) (x : CancelSight) → q ≢ p → CancelHolds q Nothing x
    → CancelHolds q (owing_of p strikes) x
owed-elsewhere strikes p q x d h =
    cancel-stays q Nothing (owing_of p strikes) x x (itself x)
    (record {
      owed = λ none. refl;
      struck = λ e. e;
      doomed = λ none e. e;
      strikes = λ owed some. absurd (false≢true (sym (owed-of-others strikes p q d) ∙ owed));
    }) h

-- and of the node itself less is said, where its process is struck
pub owed-here : (strikes : Bool) (p : ℕ) (x : CancelSight)
    → (strikes ≡ true → is_some x.caller.under_way ≡ true → is_struck x.alive ≡ true) → CancelHolds p Nothing x
    → CancelHolds p (owing_of p strikes) x
owed-here strikes p x struck h =
    cancel-stays p Nothing (owing_of p strikes) x x (itself x)
    (record {
      owed = λ none. refl;
      struck = λ e. e;
      doomed = λ none e. e;
      strikes = λ owed some. struck (owes-only strikes owed) some;
    }) h
  where
    owes-only : (t : Bool) → is_owed (owing_of p t) p ≡ true → t ≡ true
    owes-only true e = refl
    owes-only false e = absurd (false≢true e)
