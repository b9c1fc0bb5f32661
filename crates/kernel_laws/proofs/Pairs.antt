-- Two facts that an entry keeps, together.
use Rattle.std.proofs.Common.{ℕ}
use Rattle.kernel_model.specs.Row.{Alive}
use Rattle.kernel_model.specs.Kernel.{Kernel}
use Rattle.kernel_laws.proofs.Moves.{Moves}

pub record Both (S G : Kernel → Type 0) (k : Kernel) : Type 0 where
  pub order : S k
  pub other : G k

-- two facts that every move keeps are kept together
pub both-moves : (S G : Kernel → Type 0) (k : Kernel) (caller : ℕ) (a : Alive) (n : ℕ) → Moves S k caller a n
    → Moves G k caller a n → Moves (Both S G) k caller a n
both-moves S G k caller a n s g =
    record {
      same = record { order = s.same; other = g.same };
      forks = λ f. record { order = s.forks f; other = g.forks f };
      ends = λ ending. record { order = s.ends ending; other = g.ends ending };
      acts = λ x act kill. record { order = s.acts x act kill; other = g.acts x act kill };
      masks = λ how set. record { order = s.masks how set; other = g.masks how set };
      raises_own = λ target x t. record { order = s.raises_own target x t; other = g.raises_own target x t };
      raises_other = λ other target x t. record {
        order = s.raises_other other target x t;
        other =
            g.raises_other other target x t;
      };
      reaps = λ which child ending e. record {
        order = s.reaps which child ending e;
        other =
            g.reaps which child ending e;
      };
      makes_queue = λ f. record { order = s.makes_queue f; other = g.makes_queue f };
      binds_queue = λ key f. record { order = s.binds_queue key f; other = g.binds_queue key f };
      sends = λ id class text q next t e. record {
        order = s.sends id class text q next t e;
        other =
            g.sends id class text q next t e;
      };
      receives = λ id class size noerror q r t e.
          record { order = s.receives id class size noerror q r t e; other = g.receives id class size noerror q r t e };
      limits = λ id qbytes q next t e. record {
        order = s.limits id qbytes q next t e;
        other =
            g.limits id qbytes q next t e;
      };
      removes_queue = λ id. record { order = s.removes_queue id; other = g.removes_queue id };
      makes_set = λ count set e f. record { order = s.makes_set count set e f; other = g.makes_set count set e f };
      binds_set = λ key count set e f. record {
        order = s.binds_set key count set e f;
        other =
            g.binds_set key count set e f;
      };
      operates = λ id steps set next t e. record {
        order = s.operates id steps set next t e;
        other =
            g.operates id steps set next t e;
      };
      sets_one = λ id num value set next t e. record {
        order = s.sets_one id num value set next t e;
        other =
            g.sets_one id num value set next t e;
      };
      fills = λ id values set next t e. record {
        order = s.fills id values set next t e;
        other =
            g.fills id values set next t e;
      };
      removes_set = λ id. record { order = s.removes_set id; other = g.removes_set id };
    }
