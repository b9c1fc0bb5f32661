-- Where both ends of each stream were put together, what one node sent another is what that one took, and a rest.
use Rattle.std.proofs.Common.{◌≡◌, ◌≢◌, ℕ, zero, suc, ◌+◌, ◌≤◌, nat_eq, if◌then◌else◌, List, [], ◌∷◌, ◌++◌, length, map, refl, ap, sym, subst, ◌∙◌, arith}
use Rattle.std.specs.List.{AllByRecursion}
use Rattle.std.proofs.lemmas.Bool.{eq-eqb, ne_eqb}
use Rattle.stamp_merge.proofs.Filters.{all-map}
use Rattle.stream_pair.specs.declared.piece.Piece.{Piece}
use Rattle.log_model.specs.Views.{Line}
use Rattle.thread_laws.specs.Joined.{sent_on, taken_on}
use Rattle.node_log.specs.Ends.{end_of}
use Rattle.pico_run.specs.Numbered.{AllFrom}
use Rattle.pico_run.specs.Grid.{Corner, IsCorner, IsGrown, IsMesh, with_theirs}
use Rattle.pico_run.specs.Joined.{AreSettled}
use Rattle.pico_run.proofs.Lists.{all-from-above, all-from-all, all-from-below, all-from-both, all-from-map, all-from-more, all-from-step, all-from-unmap, length-map}
use Rattle.pico_run.proofs.Meshes.{IsBelow, corners-length, mesh-below}

-- ---- the line with a node

pub record IsFound (row : List Line) (p : ℕ) (l : Line) : Type 0 where
  pub sent : sent_on row p ≡ l.out.sent
  pub taken : taken_on row p ≡ l.into.taken

found-first : (l : Line) (row : List Line) (p : ℕ) → l.other ≡ p → IsFound (l ∷ row) p l
found-first l row p e =
    record {
      sent = ap (λ b. if b then l.out.sent else sent_on row p) (eq-eqb l.other p e);
      taken = ap (λ b. if b then l.into.taken else taken_on row p) (eq-eqb l.other p e);
    }

found-later : (l m : Line) (row : List Line) (p : ℕ) → l.other ≢ p → IsFound row p m → IsFound (l ∷ row) p m
found-later l m row p d h =
    record {
      sent = ap (λ b. if b then l.out.sent else sent_on row p) (ne_eqb l.other p d) ∙ h.sent;
      taken = ap (λ b. if b then l.into.taken else taken_on row p) (ne_eqb l.other p d) ∙ h.taken;
    }

found-last : (row : List Line) (l : Line) (p : ℕ) → AllByRecursion (λ (m : Line). m.other ≢ p) row → l.other ≡ p
    → IsFound (row ++ l ∷ []) p l
found-last [] l p none e = found-first l [] p e
found-last (m ∷ row) l p none e = found-later m l (row ++ l ∷ []) p none.0 (found-last row l p none.1 e)

-- what a line with another node at the end adds
sent-before : (row : List Line) (l : Line) (p : ℕ) → l.other ≢ p → sent_on (row ++ l ∷ []) p ≡ sent_on row p
sent-before [] l p d = ap (λ b. if b then l.out.sent else []) (ne_eqb l.other p d)
sent-before (m ∷ row) l p d =
    ap (λ (ps : List Piece). if nat_eq m.other p then m.out.sent else ps) (sent-before row l p d)

taken-before : (row : List Line) (l : Line) (p : ℕ) → l.other ≢ p → taken_on (row ++ l ∷ []) p ≡ taken_on row p
taken-before [] l p d = ap (λ b. if b then l.into.taken else []) (ne_eqb l.other p d)
taken-before (m ∷ row) l p d =
    ap (λ (ps : List Piece). if nat_eq m.other p then m.into.taken else ps) (taken-before row l p d)

-- ---- settled rows

abbrev pub line_other : Line → ℕ
line_other l = l.other

abbrev pub AreSettledLines : Line → Line → Type 0
AreSettledLines mine theirs = AreSettled (end_of mine) (end_of theirs)

-- what p sent to q is what q took from p, and a rest
abbrev pub SettledBetween : ℕ → List Line → ℕ → List Line → Type 0
SettledBetween p row q other_row = (rest : List Piece) × (sent_on row q ≡ taken_on other_row p ++ rest)

-- what it sent to each other node
abbrev pub SettledWith : ℕ → List Line → List (List Line) → Type 0
SettledWith p row rows = AllFrom (λ q other_row. p ≢ q → SettledBetween p row q other_row) 1 rows

-- what each node sent to each other
abbrev pub AllSettled : List (List Line) → Type 0
AllSettled rows = AllFrom (λ p row. SettledWith p row rows) 1 rows

abbrev IsSettledCorner : ℕ → ℕ → Corner Line → Type 0
IsSettledCorner n k c = IsCorner line_other AreSettledLines (n + 1) k c

mine-found : (n first : ℕ) (cs : List (Corner Line)) → AllFrom (IsSettledCorner n) first cs
    → AllFrom (λ p (c : Corner Line). IsFound (map (λ (d : Corner Line). d.mine) cs) p c.mine) first cs
mine-found n first [] are = tt
mine-found n first (c ∷ cs) are =
    let is : IsSettledCorner n first c = are.0
    in let row : List Line = map (λ (d : Corner Line). d.mine) cs
    in (
      found-first c.mine row first is.to_them,
      all-from-step (λ p (d : Corner Line). IsFound row p d.mine × (first + 1 ≤ p))
          (λ p (d : Corner Line). IsFound (c.mine ∷ row) p d.mine)
          (λ p d h.
          let low : first + 1 ≤ p = h.1
          in let own : c.mine.other ≡ first = is.to_them
          in found-later c.mine d.mine row p (λ same. absurd (let f : ⊥ = omega (arith, low, own, same) in f)) h.0)
          (first + 1) cs
          (all-from-both (λ p (d : Corner Line). IsFound row p d.mine) (λ p (d : Corner Line). first + 1 ≤ p)
          (first + 1) cs
          (mine-found n (first + 1) cs are.1) (all-from-above (first + 1) (first + 1) cs (omega arith))),
    )

-- what is known of the node at a corner
record CornerFacts (n : ℕ) (row : List Line) (k : ℕ) (c : Corner Line) : Type 0 where
  pub low : k ≤ n
  pub to_me : c.theirs.other ≡ n + 1
  pub both : AreSettledLines c.mine c.theirs
  pub mine : IsFound row k c.mine
  pub theirs : IsFound (with_theirs c) (n + 1) c.theirs

corner-facts : (n : ℕ) (cs : List (Corner Line)) → length cs ≡ n → AllFrom (IsSettledCorner n) 1 cs
    → AllByRecursion (IsBelow line_other n) (map (λ (c : Corner Line). c.old) cs)
    → AllFrom (CornerFacts n (map (λ (c : Corner Line). c.mine) cs)) 1 cs
corner-facts n cs few are below =
    let row : List Line = map (λ (c : Corner Line). c.mine) cs
    in let Low : ℕ → Corner Line → Type 0 = λ k c. k ≤ n
    in let Found : ℕ → Corner Line → Type 0 = λ k c. IsFound row k c.mine
    in let Below : ℕ → Corner Line → Type 0 = λ k c. IsBelow line_other n c.old
    in all-from-step (λ k c. (Low k c × Found k c) × (Below k c × IsSettledCorner n k c)) (CornerFacts n row)
    (λ k c h. facts row k c h.0.0 h.0.1 h.1.0 h.1.1) 1 cs
    (all-from-both (λ k c. Low k c × Found k c) (λ k c. Below k c × IsSettledCorner n k c) 1 cs
    (all-from-both Low Found 1 cs (all-from-below n 1 cs (omega (arith, few))) (mine-found n 1 cs are))
    (all-from-both Below (IsSettledCorner n) 1 cs
    (all-from-unmap (λ k (old : List Line). IsBelow line_other n old) (λ (c : Corner Line). c.old) 1 cs
    (all-from-all (IsBelow line_other n) 1 (map (λ (c : Corner Line). c.old) cs) below)) are))
  where
    facts : (row : List Line) (k : ℕ) (c : Corner Line) → k ≤ n → IsFound row k c.mine → IsBelow line_other n c.old
        → IsSettledCorner n k c → CornerFacts n row k c
    facts row k c low found old is =
        record {
          low = low;
          to_me = is.to_me;
          both = is.both;
          mine = found;
          theirs =
              found-last c.old c.theirs (n + 1)
              (all-map (λ (m : Line) (lower : m.other ≤ n). λ (same : m.other ≡ n + 1).
              absurd (let f : ⊥ = omega (arith, lower, same) in f)) c.old old)
              is.to_me;
        }

-- between two older nodes nothing has changed
older : (n : ℕ) (row : List Line) (p q : ℕ) (c d : Corner Line) → CornerFacts n row p c → CornerFacts n row q d
    → SettledBetween p c.old q d.old → SettledBetween p (with_theirs c) q (with_theirs d)
older n row p q c d of_c of_d h =
    let me : c.theirs.other ≡ n + 1 = of_c.to_me
    in let me_too : d.theirs.other ≡ n + 1 = of_d.to_me
    in let p_low : p ≤ n = of_c.low
    in let q_low : q ≤ n = of_d.low
    in (
      h.0,
      sent-before c.old c.theirs q (λ same. absurd (let f : ⊥ = omega (arith, me, q_low, same) in f))
          ∙ h.1
          ∙ ap (λ (ps : List Piece). ps ++ h.0)
          (sym (taken-before d.old d.theirs p (λ same. absurd (let f : ⊥ = omega (arith, me_too, p_low, same) in f)))),
    )

to-me : (n : ℕ) (row : List Line) (p q : ℕ) (c : Corner Line) → q ≡ n + 1 → CornerFacts n row p c
    → SettledBetween p (with_theirs c) q row
to-me n row p q c e of_c = (
  of_c.both.back,
  ap (λ m. sent_on (with_theirs c) m) e
      ∙ of_c.theirs.sent
      ∙ of_c.both.back_is
      ∙ ap (λ (ps : List Piece). ps ++ of_c.both.back) (sym of_c.mine.taken),
)

from-me : (n : ℕ) (row : List Line) (p q : ℕ) (d : Corner Line) → p ≡ n + 1 → CornerFacts n row q d
    → SettledBetween p row q (with_theirs d)
from-me n row p q d e of_d = (
  of_d.both.there,
  of_d.mine.sent
      ∙ of_d.both.there_is
      ∙ ap (λ (ps : List Piece). ps ++ of_d.both.there) (sym (ap (λ m. taken_on (with_theirs d) m) e
      ∙ of_d.theirs.taken)),
)

-- a further node
settled-more : (n : ℕ) (cs : List (Corner Line)) → length cs ≡ n
    → AllFrom (CornerFacts n (map (λ (c : Corner Line). c.mine) cs)) 1 cs
    → AllSettled (map (λ (c : Corner Line). c.old) cs)
    → AllSettled (map with_theirs cs ++ map (λ (c : Corner Line). c.mine) cs ∷ [])
settled-more n cs few facts olds =
    let row : List Line = map (λ (c : Corner Line). c.mine) cs
    in let last : 1 + length (map with_theirs cs) ≡ n + 1 =
    (let e : length (map with_theirs cs) ≡ length cs = length-map with_theirs cs in omega (arith, e, few))
    in all-from-more (λ p r. SettledWith p r (map with_theirs cs ++ row ∷ [])) 1 (map with_theirs cs) row
    (all-from-map (λ p (c : Corner Line). SettledWith p c.old (map (λ
    (d : Corner Line). d.old) cs) × CornerFacts n row p c)
    (λ p r. SettledWith p r (map with_theirs cs ++ row ∷ [])) with_theirs
    (λ p c h. of-older row last p c h.1 h.0) 1 cs
    (all-from-both (λ p (c : Corner Line). SettledWith p c.old (map (λ (d : Corner Line). d.old) cs))
    (CornerFacts n row) 1 cs
    (all-from-unmap (λ p (old : List Line). SettledWith p old (map (λ (d : Corner Line). d.old) cs))
    (λ (c : Corner Line). c.old) 1 cs olds)
    facts))
    (all-from-more (λ q r. 1 + length (map with_theirs cs) ≢ q
    → SettledBetween (1 + length (map with_theirs cs)) row q r)
    1 (map with_theirs cs) row
    (all-from-map (CornerFacts n row)
    (λ q r. 1 + length (map with_theirs cs) ≢ q → SettledBetween (1 + length (map with_theirs cs)) row q r)
    with_theirs (λ q d h apart. from-me n row (1 + length (map with_theirs cs)) q d last h) 1 cs facts)
    (λ apart. absurd (apart refl)))
  where
    of-older : (row : List Line) → 1 + length (map with_theirs cs) ≡ n + 1 → (p : ℕ) (c : Corner Line)
        → CornerFacts n (map (λ (d : Corner Line). d.mine) cs) p c
        → SettledWith p c.old (map (λ (d : Corner Line). d.old) cs)
        → SettledWith p (with_theirs c) (map with_theirs cs ++ map (λ (d : Corner Line). d.mine) cs ∷ [])
    of-older row last p c of_c h =
        let mine : List Line = map (λ (d : Corner Line). d.mine) cs
        in all-from-more (λ q r. p ≢ q → SettledBetween p (with_theirs c) q r) 1 (map with_theirs cs) mine
        (all-from-map (λ q (d : Corner Line). (p ≢ q → SettledBetween p c.old q d.old) × CornerFacts n mine q d)
        (λ q r. p ≢ q → SettledBetween p (with_theirs c) q r) with_theirs
        (λ q d g apart. older n mine p q c d of_c g.1 (g.0 apart)) 1 cs
        (all-from-both (λ q (d : Corner Line). p ≢ q → SettledBetween p c.old q d.old) (CornerFacts n mine) 1 cs
        (all-from-unmap (λ q (old : List Line). p ≢ q
        → SettledBetween p c.old q old) (λ (d : Corner Line). d.old) 1 cs h)
        facts))
        (λ apart. to-me n mine p (1 + length (map with_theirs cs)) c last of_c)

-- streams that are settled pair by pair are all settled
pub mesh-settled : (n : ℕ) (rows : List (List Line)) → IsMesh line_other AreSettledLines n rows → AllSettled rows
mesh-settled zero rows h = subst AllSettled (sym h) tt
mesh-settled (suc n) rows h =
    let g : IsGrown line_other AreSettledLines n h.olds rows = h.grown
    in let few : length g.corners ≡ n = corners-length line_other AreSettledLines n rows h
    in let below : AllByRecursion (IsBelow line_other n) (map (λ (c : Corner Line). c.old) g.corners) =
    subst (λ (xs : List (List Line)). AllByRecursion (IsBelow line_other n) xs) g.olds_are
    (mesh-below line_other AreSettledLines n h.olds h.rest)
    in let olds : AllSettled (map (λ (c : Corner Line). c.old) g.corners) =
    subst AllSettled g.olds_are (mesh-settled n h.olds h.rest)
    in subst AllSettled (sym g.rows_are)
    (settled-more n g.corners few (corner-facts n g.corners few g.are below) olds)
