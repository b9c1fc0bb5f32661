-- Nodes that are taken apart one after the other.
use Rattle.std.proofs.Common.{◌≡◌, ◌≢◌, List, [], ◌∷◌, ◌++◌, map, Some, refl, ap, sym, subst, ◌∙◌, append_assoc}
use Rattle.std.specs.List.{AllByRecursion}
use Rattle.log_model.specs.declared.answer.LogFault.TheVariants as faults
use Rattle.log_model.specs.Views.{LoggedNode, Parting}
use Rattle.journal_core.specs.Seated.{Seated}
use Rattle.node_lines.specs.declared.end.End.{End}
use Rattle.pico_run.specs.declared.joining.Parts.{Parts}
use Rattle.pico_run.specs.Joined.{ends_of, parting_of}
use Rattle.pico_run.specs.Joining.{IsLeft}

abbrev pub NotSpent : LoggedNode → Type 0
NotSpent l = l.fault ≢ Some faults.Memory

pub record IsLeaving (nodes : List LoggedNode) (parts : Parts) (left : List LoggedNode) : Type 0 where
  pub partings : parts.partings.items ++ map parting_of left ≡ map parting_of nodes
  pub seats : parts.seats ++ map (λ l. l.seat) left ≡ map (λ l. l.seat) nodes
  pub rows : parts.rows.items ++ map ends_of left ≡ map ends_of nodes
  pub whole : AllByRecursion NotSpent left

abbrev pub moved : {A B : Type 0} (f : A → B) (done more : List B) (x : A) (left : List A) (b : B) (all : List B)
    → Type 0
moved f done more x left b all =
    done ++ map f (x ∷ left) ≡ all → b ≡ f x → more ≡ done ++ b ∷ [] → more ++ map f left ≡ all

move : {A B : Type 0} (f : A → B) (done more : List B) (x : A) (left : List A) (b : B) (all : List B)
    → moved f done more x left b all
move {B = B} f done more x left b all so_far is with_it =
    ap (λ (bs : List B). bs ++ map f left) with_it
    ∙ append_assoc done (b ∷ []) (map f left)
    ∙ ap (λ (c : B). done ++ c ∷ map f left) is
    ∙ so_far

pub leaving-whole : (nodes : List LoggedNode) (parts : Parts) (left rest : List LoggedNode) (l : LoggedNode)
    → IsLeaving nodes parts left → left ≡ l ∷ rest → NotSpent l
leaving-whole nodes parts left rest l h is =
    (subst (λ (xs : List LoggedNode). AllByRecursion NotSpent xs) is h.whole).0

pub leaving-more : (nodes : List LoggedNode) (parts more : Parts) (left rest : List LoggedNode) (l : LoggedNode)
    (parting : Parting) (seat : Seated) (ends : List End) → IsLeaving nodes parts left → left ≡ l ∷ rest
    → parting ≡ parting_of l → seat ≡ l.seat → ends ≡ ends_of l
    → more.partings.items ≡ parts.partings.items ++ parting ∷ [] → more.seats ≡ parts.seats ++ seat ∷ []
    → more.rows.items ≡ parts.rows.items ++ ends ∷ [] → IsLeaving nodes more rest
leaving-more nodes parts more left rest l parting seat ends h is is_parting is_seat is_ends with_parting with_seat
    with_ends =
    let now : IsLeaving nodes parts (l ∷ rest) = subst (λ (xs : List LoggedNode). IsLeaving nodes parts xs) is h
    in record {
      partings =
          move parting_of parts.partings.items more.partings.items l rest parting (map parting_of nodes) now.partings
          is_parting with_parting;
      seats =
          move (λ (x : LoggedNode). x.seat) parts.seats more.seats l rest seat (map (λ (x : LoggedNode). x.seat) nodes)
          now.seats is_seat with_seat;
      rows =
          move ends_of parts.rows.items more.rows.items l rest ends (map ends_of nodes) now.rows is_ends with_ends;
      whole = now.whole.1;
    }

pub leaving-start : (nodes : List LoggedNode) (parts : Parts) (left : List LoggedNode) → left ≡ nodes
    → parts.partings.items ≡ [] → parts.seats ≡ [] → parts.rows.items ≡ []
    → AllByRecursion NotSpent nodes → IsLeaving nodes parts left
leaving-start nodes parts left same no_partings no_seats no_rows whole =
    let now : IsLeaving nodes parts nodes =
    record {
      partings = ap (λ (xs : List Parting). xs ++ map parting_of nodes) no_partings;
      seats = ap (λ (xs : List Seated). xs ++ map (λ (l : LoggedNode). l.seat) nodes) no_seats;
      rows = ap (λ (xs : List (List End)). xs ++ map ends_of nodes) no_rows;
      whole = whole;
    }
    in subst (λ (xs : List LoggedNode). IsLeaving nodes parts xs) (sym same) now

pub leaving-end : (nodes : List LoggedNode) (parts : Parts) (left : List LoggedNode) → IsLeaving nodes parts left
    → left ≡ [] → IsLeft nodes parts
leaving-end nodes parts left h none =
    let now : IsLeaving nodes parts [] = subst (λ (xs : List LoggedNode). IsLeaving nodes parts xs) none h
    in record {
      partings = sym (append-none parts.partings.items) ∙ now.partings;
      seats = sym (append-none parts.seats) ∙ now.seats;
      rows = sym (append-none parts.rows.items) ∙ now.rows;
    }
  where
    append-none : {X : Type 0} (xs : List X) → xs ++ [] ≡ xs
    append-none [] = refl
    append-none {X} (x ∷ xs) = ap (λ (ys : List X). x ∷ ys) (append-none xs)
