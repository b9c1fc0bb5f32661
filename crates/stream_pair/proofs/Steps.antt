-- Each kind of step keeps the order of a stream.
use Rattle.std.proofs.Common.{◌≡◌, ◌≢◌, ℕ, zero, suc, true, false, true≢false, List, [], ◌∷◌, ◌++◌, length, set, sym, refl, ap, ◌∙◌, subst, ⊎_elim, append_assoc, append-nil}
use mathlib.Core.Option.{some, some-ne-none}
use lib.ListN.{get_elem?}
use Rattle.crossbeam_queue.specs.Fifo.{Pushes, Pops, Forks, Merges, Learns}
use Rattle.crossbeam_queue.proofs.Lists.{at_set, at_snoc}
use Rattle.stream_pair.specs.declared.piece.Piece.{Piece}
use Rattle.stream_pair.specs.declared.order.Hand.{Hand}
use Rattle.stream_pair.specs.Order.{hand, Begins, Knows, IsInOrder, after_send, after_take, TakesNext, WasThere, WasEmpty}

at_end : (l : List Hand) (a b : Hand) (j : ℕ) → get_elem? l j ≢ some b → get_elem? (l ++ a ∷ []) j ≡ some b
    → j ≡ length l
at_end [] a b zero n e = refl
at_end [] a b (suc j) n e = absurd (some-ne-none b (sym e))
at_end (x ∷ xs) a b zero n e = absurd (n e)
at_end (x ∷ xs) a b (suc j) n e = ap suc (at_end xs a b j n e)

-- each end, by its number, is as F says
abbrev All : (ℕ → Hand → Type 0) → List Hand → Type 0
All F hands = (end : ℕ) (h : Hand) → get_elem? hands end ≡ some h → F end h

all_set : (F : ℕ → Hand → Type 0) (hands : List Hand) (end : ℕ) (new : Hand) → F end new
    → ((j : ℕ) (u : Hand) → j ≢ end → get_elem? hands j ≡ some u → F j u)
    → All F (set hands end new)
all_set F hands end new mine others j u e = ⊎_elim
    (λ (x : (j ≡ end) × (new ≡ u)). subst (λ (y : ℕ × Hand). F y.0 y.1) (λ i. (sym x.0 i, x.1 i)) mine)
    (λ (x : (j ≢ end) × (get_elem? hands j ≡ some u)). others j u x.0 x.1) (at_set hands end j new u e)

begins_itself : (all : List Piece) → Begins all all
begins_itself all = record { rest = []; whole = sym (append-nil all) }

nothing_begins : (all : List Piece) → Begins [] all
nothing_begins all = record { rest = all; whole = refl }

begins_more : (front all : List Piece) (p : Piece) → Begins front all → Begins front (all ++ p ∷ [])
begins_more front all p begins = record {
  rest = begins.rest ++ p ∷ [];
  whole = ap (λ l. l ++ p ∷ []) begins.whole ∙ append_assoc front begins.rest (p ∷ []);
}

-- a new stream is in order: one hand has both ends
pub new_stream_is_in_order : IsInOrder [] (hand true true [] [] ∷ [])
new_stream_is_in_order = record {
  sender = 0;
  taker = 0;
  sent = [];
  taken = [];
  whole = refl;
  each = all_set (Knows 0 0 [] []) (hand true true [] [] ∷ []) 0 (hand true true [] [])
      (record { sends = λ _. (refl, refl); takes = λ _. (refl, refl); front = nothing_begins [] })
      (λ j u other e. absurd (other (at_end [] _ u j (λ x. some-ne-none u (sym x)) e)));
}

-- who may send may put a piece at the end
pub sends_keep_order : (n end : ℕ) (h : Hand) (p : Piece) → h.sends ≡ true
    → Pushes IsInOrder n end h p (λ new. new ≡ after_send h p)
sends_keep_order n end h p may items hands _ order at =
    let mine = order.each end h at in
    let sent = order.sent ++ p ∷ [] in (
      after_send h p,
      record {
        sender = order.sender;
        taker = order.taker;
        sent = sent;
        taken = order.taken;
        whole = ap (λ l. l ++ p ∷ []) order.whole ∙ append_assoc order.taken items (p ∷ []);
        each = all_set (Knows order.sender order.taker sent order.taken) hands end (after_send h p)
            (record {
              sends = λ _. ((mine.sends may).0, ap (λ l. l ++ p ∷ []) (mine.sends may).1);
              takes = mine.takes;
              front = subst (λ l. Begins (h.sent ++ p ∷ []) (l ++ p ∷ [])) (mine.sends may).1
                  (begins_itself (h.sent ++ p ∷ []));
            })
            (λ j u other e. record {
              sends = λ yes. absurd
                  (other (((order.each j u e).sends yes).0 ∙ sym (mine.sends may).0));
              takes = (order.each j u e).takes;
              front = begins_more u.sent order.sent p (order.each j u e).front;
            });
      },
      refl,
    )

-- who may take may take the piece at the front
pub takes_keep_order : (end : ℕ) (h : Hand) → h.takes ≡ true → Pops IsInOrder end h (λ p new. new ≡ after_take h p)
takes_keep_order end h may p items hands order at =
    let mine = order.each end h at in
    let taken = order.taken ++ p ∷ [] in (
      after_take h p,
      record {
        sender = order.sender;
        taker = order.taker;
        sent = order.sent;
        taken = taken;
        whole = order.whole ∙ sym (append_assoc order.taken (p ∷ []) items);
        each = all_set (Knows order.sender order.taker order.sent taken) hands end (after_take h p)
            (record {
              sends = mine.sends;
              takes = λ _. ((mine.takes may).0, ap (λ l. l ++ p ∷ []) (mine.takes may).1);
              front = mine.front;
            })
            (λ j u other e. record {
              sends = (order.each j u e).sends;
              takes = λ yes. absurd
                  (other (((order.each j u e).takes yes).0 ∙ sym (mine.takes may).0));
              front = (order.each j u e).front;
            });
      },
      refl,
    )

-- who has both ends takes the next piece that was sent
pub takes_give_the_next : (end : ℕ) (h : Hand) → h.sends ≡ true → h.takes ≡ true → Pops IsInOrder end h (TakesNext h)
takes_give_the_next end h may_send may_take p items hands order at =
    let mine = order.each end h at in
    let step = takes_keep_order end h may_take p items hands order at in (
      step.0,
      step.1,
      (
        step.2,
        (
          items,
          (mine.sends may_send).1 ∙ order.whole ∙ ap (λ l. l ++ p ∷ items)
              (sym (mine.takes may_take).1),
        ),
      ),
    )

-- a look at the queue sees it in order
pub looks_see_order : (end : ℕ) (h : Hand) → Learns IsInOrder end h (WasThere h)
looks_see_order end h items hands order at = record { hands = hands; end = end; order = order; knew = at }

-- who has both ends knows what the queue holds
pub both_ends_know_the_rest : (end : ℕ) (h : Hand) → h.sends ≡ true → h.takes ≡ true
    → Learns IsInOrder end h (λ items. h.sent ≡ h.taken ++ items)
both_ends_know_the_rest end h may_send may_take items hands order at =
    let mine = order.each end h at in (mine.sends may_send).1 ∙ order.whole ∙ ap (λ l. l ++ items)
    (sym (mine.takes may_take).1)

-- both ends part
pub parting_keeps_order : (end : ℕ) (h : Hand) → h.sends ≡ true → h.takes ≡ true
    → Forks IsInOrder end h (hand true false h.sent []) (hand false true [] h.taken)
parting_keeps_order end h may_send may_take items hands order at =
    let out : Hand = hand true false h.sent [] in
    let into : Hand = hand false true [] h.taken in
    let mine = order.each end h at in
    let others : List Hand = set hands end out in
    let Old : ℕ → Hand → Type 0 = λ j u. (u.sends ≡ true → (j ≡ order.sender) × (u.sent ≡ order.sent))
    × (u.takes ≢ true) × Begins u.sent order.sent in
    let old : All Old others = all_set Old hands end out
    (λ _. mine.sends may_send, λ yes. true≢false (sym yes), mine.front)
    (λ j u other e. (
      (order.each j u e).sends,
      λ yes. other
          (((order.each j u e).takes yes).0 ∙ sym (mine.takes may_take).0),
      (order.each j u e).front,
    )) in
    record {
      sender = order.sender;
      taker = length others;
      sent = order.sent;
      taken = order.taken;
      whole = order.whole;
      each = λ j u e. ⊎_elim
          (λ x. record {
            sends = (old j u x).0;
            takes = λ yes. absurd ((old j u x).1 yes);
            front = (old j u x).2;
          })
          (λ (is : into ≡ u). record {
            sends = λ yes. absurd (true≢false (sym (ap (λ (y : Hand). y.sends) is ∙ yes)));
            takes = λ yes. (
              at_end others into u j (λ x. (old j u x).1 yes) e,
              ap (λ (y : Hand). y.taken) (sym is)
                  ∙ (mine.takes may_take).1,
            );
            front = subst (λ (y : Hand). Begins y.sent order.sent) is (nothing_begins order.sent);
          })
          (at_snoc others into u j e);
    }

-- both ends come together
pub meeting_keeps_order : (end : ℕ) (h : Hand) (other : ℕ) (u : Hand) → h.sends ≡ true → u.takes ≡ true
    → Merges IsInOrder end h other u (hand true true h.sent u.taken) (hand false false [] [])
meeting_keeps_order end h other u may_send may_take items hands order at two at' =
    let both : Hand = hand true true h.sent u.taken in
    let mine = order.each end h at in
    let hands' : List Hand = set hands end both in
    let was : get_elem? hands other ≡ some u = ⊎_elim (λ x. absurd (two x.0)) (λ x. x.1)
    (at_set hands end other both u at') in
    let theirs = (order.each other u was).takes may_take in
    let Now : ℕ → Hand → Type 0 = λ j y. j ≢ other → Knows order.sender end order.sent order.taken j y in
    let now : All Now hands' = all_set Now hands end both
    (λ _. record { sends = λ _. mine.sends may_send; takes = λ _. (refl, theirs.1); front = mine.front })
    (λ j y _ e apart. record {
      sends = (order.each j y e).sends;
      takes = λ yes. absurd
          (apart (((order.each j y e).takes yes).0 ∙ sym theirs.0));
      front = (order.each j y e).front;
    }) in
    record {
      sender = order.sender;
      taker = end;
      sent = order.sent;
      taken = order.taken;
      whole = order.whole;
      each = all_set (Knows order.sender end order.sent order.taken) hands' other (hand false false [] [])
          (record {
            sends = λ yes. absurd (true≢false (sym yes));
            takes = λ yes. absurd (true≢false (sym yes));
            front = nothing_begins order.sent;
          })
          (λ j y apart e. now j y e apart);
    }

-- a hand that knows what was sent so far is cut off
pub receipts_keep_order : (end : ℕ) (h : Hand) → Forks IsInOrder end h h (hand false false h.sent [])
receipts_keep_order end h items hands order at =
    let receipt : Hand = hand false false h.sent [] in
    let mine = order.each end h at in
    let Old : ℕ → Hand → Type 0 = Knows order.sender order.taker order.sent order.taken in
    let old : All Old (set hands end h) = all_set Old hands end h mine (λ j u other e. order.each j u e) in
    record {
      sender = order.sender;
      taker = order.taker;
      sent = order.sent;
      taken = order.taken;
      whole = order.whole;
      each = λ j u e. ⊎_elim (λ x. old j u x)
          (λ (is : receipt ≡ u). record {
            sends = λ yes. absurd (true≢false (sym (ap (λ (y : Hand). y.sends) is ∙ yes)));
            takes = λ yes. absurd (true≢false (sym (ap (λ (y : Hand). y.takes) is ∙ yes)));
            front = subst (λ (y : Hand). Begins y.sent order.sent) is mine.front;
          })
          (at_snoc (set hands end h) receipt u j e);
    }

-- who takes is told what another hand knows
pub telling_keeps_order : (end : ℕ) (h : Hand) (other : ℕ) (u : Hand) → h.takes ≡ true
    → Merges IsInOrder end h other u (hand false true u.sent h.taken) (hand false false [] [])
telling_keeps_order end h other u may_take items hands order at two at' =
    let told : Hand = hand false true u.sent h.taken in
    let mine = order.each end h at in
    let was : get_elem? hands other ≡ some u = ⊎_elim (λ x. absurd (two x.0)) (λ x. x.1)
    (at_set hands end other told u at') in
    let Now : ℕ → Hand → Type 0 = Knows order.sender order.taker order.sent order.taken in
    let now : All Now (set hands end told) = all_set Now hands end told
    (record {
      sends = λ yes. absurd (true≢false (sym yes));
      takes = λ _. mine.takes may_take;
      front = (order.each other u was).front;
    })
    (λ j y _ e. order.each j y e) in
    record {
      sender = order.sender;
      taker = order.taker;
      sent = order.sent;
      taken = order.taken;
      whole = order.whole;
      each = all_set Now (set hands end told) other (hand false false [] [])
          (record {
            sends = λ yes. absurd (true≢false (sym yes));
            takes = λ yes. absurd (true≢false (sym yes));
            front = nothing_begins order.sent;
          })
          (λ j y _ e. now j y e);
    }

-- where the stream was empty, all that its taker had been told of is taken
pub an_empty_stream_hides_nothing : (told taken : List Piece) → WasEmpty told taken → Begins told taken
an_empty_stream_hides_nothing told taken was =
    let mine = was.order.each was.end (hand false true told taken) was.knew in
    subst (λ l. Begins told l) (was.order.whole ∙ append-nil was.order.taken ∙ sym (mine.takes refl).1) mine.front
