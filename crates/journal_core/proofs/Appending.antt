-- What an append says, from the journal that was found and the journal that is put back.
use Rattle.std.proofs.Common.{◌≡◌, ℕ, zero, suc, ◌+◌, ◌≤◌, true, List, [], ◌∷◌, ◌++◌, length, drop, max, sym, ap, ◌∙◌, subst, append-nil, arith}
use Rattle.std.specs.Prelude.{Some, Result, Ok, Err, MatchResult, slice_get}
use Rattle.std.proofs.lemmas.Option.{same_Some}
use Rattle.std.proofs.Math.Nat.{le-max_right}
use Rattle.pico_base.specs.declared.reply.Entry.{Entry}
use Rattle.journal_core.specs.declared.stamped.Stamped.{Stamped}
use Rattle.journal_core.specs.declared.fault.AppendFault.{AppendFault}
use Rattle.journal_core.specs.Journal.{stamp_after, last_stamp, under, BeginsWith, IsInOrder}
use Rattle.journal_core.specs.Seated.{Seated, IsStamp, IsCause, Appends, Refuses}
use Rattle.journal_core.specs.Steps.{Mine}
use Rattle.journal_core.specs.Turns.{IsOf, CanPut, Adds}
use Rattle.journal_core.proofs.Journals.{order_behind, under_is_of, drop_seen}

-- the stamp of the entry that stands last
pub stamp_of_last : (last : ℕ) (xs : List Stamped) (i : ℕ) (x : Stamped) → i + 1 ≡ length xs
    → slice_get xs i ≡ Some x → x.stamp ≡ stamp_after last xs
stamp_of_last last [] i x at e = absurd (omega arith)
stamp_of_last last (y ∷ []) zero x at e = ap (λ (s : Stamped). s.stamp) (sym (same_Some y x e))
stamp_of_last last (y ∷ []) (suc i) x at e = absurd (omega arith)
stamp_of_last last (y ∷ z ∷ zs) zero x at e = absurd (omega arith)
stamp_of_last last (y ∷ z ∷ zs) (suc i) x at e = stamp_of_last y.stamp (z ∷ zs) i x (omega arith) e

-- a new stamp keeps the order
order_now : (floor seat stamp : ℕ) (entries : List Entry) (found : List Stamped) → IsInOrder found
    → IsStamp stamp (max floor (last_stamp found)) → IsInOrder (found ++ under stamp seat entries)
order_now floor seat stamp entries found order is =
    let most : last_stamp found ≤ max floor (last_stamp found) = le-max_right floor (last_stamp found) in
    let one : stamp ≡ max floor (last_stamp found) + 1 = is.1 in
    order_behind 0 found stamp seat entries order (omega arith)

-- the seat can put the journal back
pub can_put : (m : Mine) (old : List Stamped) (floor seat : ℕ) (entries : List Entry) (found now : List Stamped)
    (answer : Result ℕ AppendFault)
    → m.1 ≡ (0, old) ∷ [] → m.0.taken ≡ true → m.0.number ≡ seat → m.0.seen ≡ found → IsInOrder found
    → Adds floor seat entries found now answer → CanPut m now
can_put m old floor seat entries found now (Ok stamp) slot taken number seen order adds =
    record {
      old = old;
      slot = slot;
      taken = taken;
      added = under stamp seat entries;
      is = adds.1 ∙ ap (λ l. l ++ under stamp seat entries) (sym seen);
      own = subst (λ n. IsOf n (under stamp seat entries)) (sym number) (under_is_of stamp seat entries);
      order = subst IsInOrder (sym adds.1) (order_now floor seat stamp entries found order adds.0);
    }
can_put m old floor seat entries found now (Err fault) slot taken number seen order adds =
    record {
      old = old;
      slot = slot;
      taken = taken;
      added = [];
      is = adds.1 ∙ (sym seen ∙ sym (append-nil m.0.seen));
      own = tt;
      order = subst IsInOrder (sym adds.1) order;
    }

-- what is told of an append
pub tells : (floor : ℕ) (entries : List Entry) (found now : List Stamped) (old new : Seated)
    (answer : Result ℕ AppendFault)
    → BeginsWith found old.seen → IsInOrder found → new.own ≡ old.own ++ drop (length found) now → new.seen ≡ now
    → Adds floor old.number entries found now answer
    → MatchResult answer (λ stamp. Appends floor entries old new stamp) (λ fault. Refuses floor old new fault)
tells floor entries found now old new (Ok stamp) begins order own seen adds =
    let whole = under stamp old.number entries in
    record {
      found = found;
      begins = begins;
      stamped = adds.0;
      own = own ∙ ap (λ l. old.own ++ l) (ap (drop (length found)) adds.1 ∙ drop_seen found whole);
      seen = seen ∙ adds.1;
      order = subst IsInOrder (sym (seen ∙ adds.1)) (order_now floor old.number stamp entries found order adds.0);
    }
tells floor entries found now old new (Err fault) begins order own seen adds =
    let same = seen ∙ adds.1 in
    let nothing : drop (length found) now ≡ [] =
    ap (drop (length found)) (adds.1 ∙ sym (append-nil found)) ∙ drop_seen found [] in
    record {
      begins = subst (λ l. BeginsWith l old.seen) (sym same) begins;
      own = own ∙ (ap (λ l. old.own ++ l) nothing ∙ append-nil old.own);
      cause = subst (λ l. IsCause fault (max floor (last_stamp l))) (sym same) adds.0;
      order = subst IsInOrder (sym same) order;
    }
