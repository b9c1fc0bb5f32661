-- What the streams are after one of them has changed.
use Rattle.std.proofs.Common.{◌≡◌, ◌≢◌, ℕ, ◌-◌, ◌<◌, ◌≤◌, List, [], length, get_or, ap, sym, subst, ◌∙◌, inl, inr, arith}
use Rattle.std.specs.Prelude.{set}
use Rattle.std.proofs.lemmas.List.{length-set, get_or-set_same, get_or-set_other}
use Rattle.std.proofs.lemmas.Bool.{cases_eq}
use Rattle.rpc_frame.specs.declared.frame.Frame.{Frame}
use Rattle.world_model.specs.World.{Streams, stream_in, with_stream}

-- a stream for each pair of nodes
pub record Square (n : ℕ) (ss : Streams) : Type 0 where
  pub rows : length ss ≡ n
  pub row : (i : ℕ) → i < n → length (get_or ss i []) ≡ n

-- one changed stream leaves a stream for each pair
pub square-with : (n : ℕ) (ss : Streams) (p q : ℕ) (fs : List Frame) → Square n ss → 1 ≤ p → p ≤ n
    → Square n (with_stream ss p q fs)
square-with n ss p q fs s low high =
    record {
      rows = length-set ss (p - 1) _ ∙ s.rows;
      row = λ i l. elim (cases_eq i (p - 1)) [
        | inl e ↦ ap (λ j. length (get_or (set ss (p - 1) (set (get_or ss (p - 1) []) (q - 1) fs)) j [])) e
            ∙ ap length (get_or-set_same ss (p - 1) _ [] (subst (λ x. p - 1 < x) (sym s.rows) (omega arith)))
            ∙ length-set (get_or ss (p - 1) []) (q - 1) fs ∙ s.row (p - 1) (omega arith)
        | inr e ↦ ap length (get_or-set_other ss (p - 1) i _ [] e) ∙ s.row i l
      ];
    }

-- the stream that was changed
pub stream-same : (n : ℕ) (ss : Streams) (p q : ℕ) (fs : List Frame) → Square n ss → 1 ≤ p → p ≤ n → 1 ≤ q → q ≤ n
    → stream_in (with_stream ss p q fs) p q ≡ fs
stream-same n ss p q fs s low high low_q high_q =
    ap (λ row. get_or row (q - 1) [])
    (get_or-set_same ss (p - 1) _ [] (subst (λ x. p - 1 < x) (sym s.rows) (omega arith)))
    ∙ get_or-set_same (get_or ss (p - 1) []) (q - 1) fs []
    (subst (λ x. q - 1 < x) (sym (s.row (p - 1) (omega arith))) (omega arith))

-- in another row, or at another place of the same row
pub stream-row : (n : ℕ) (ss : Streams) (p q r t : ℕ) (fs : List Frame) → r - 1 ≢ p - 1
    → stream_in (with_stream ss p q fs) r t ≡ stream_in ss r t
stream-row n ss p q r t fs other = ap (λ row. get_or row (t - 1) []) (get_or-set_other ss (p - 1) (r - 1) _ [] other)

-- from another node
pub stream-column : (n : ℕ) (ss : Streams) (p q t : ℕ) (fs : List Frame) → Square n ss → 1 ≤ p → p ≤ n → t - 1 ≢ q - 1
    → stream_in (with_stream ss p q fs) p t ≡ stream_in ss p t
stream-column n ss p q t fs s low high other =
    ap (λ row. get_or row (t - 1) [])
    (get_or-set_same ss (p - 1) _ [] (subst (λ x. p - 1 < x) (sym s.rows) (omega arith)))
    ∙ get_or-set_other (get_or ss (p - 1) []) (q - 1) (t - 1) fs [] other

-- any other stream stays
pub stream-other : (n : ℕ) (ss : Streams) (p q r t : ℕ) (fs : List Frame) → Square n ss → 1 ≤ p → p ≤ n → 1 ≤ q → 1 ≤ r
    → 1 ≤ t
    → (r ≡ p → t ≢ q) → stream_in (with_stream ss p q fs) r t ≡ stream_in ss r t
stream-other n ss p q r t fs s low high low_q low_r low_t other =
    elim (cases_eq r p) [
      | inl e ↦
          let h : t ≢ q = other e
          in subst (λ x. stream_in (with_stream ss p q fs) x t ≡ stream_in ss x t) (sym e)
          (stream-column n ss p q t fs s low high (λ g. h (omega arith)))
      | inr e ↦ stream-row n ss p q r t fs (λ g. e (omega arith))
    ]
