-- Looks at many lines, one after the other: what is known of the lines that they leave.
use Rattle.std.proofs.Common.{◌≡◌, ◌≢◌, ℕ, Bool, true, false, List, [], ◌∷◌, Ok, refl, ap, sym, subst, ◌∙◌}
use Rattle.std.specs.List.{AllByRecursion, Contains}
use Rattle.std.proofs.lemmas.Bool.{both_ways}
use Rattle.rpc_frame.specs.declared.frame.Frame.{Frame}
use Rattle.stamp_merge.proofs.Filters.{all-map}
use Rattle.log_laws.specs.Logs.{StampedFrame, stamped, Takes, Log}
use Rattle.log_model.specs.declared.found.Found.{Found}
use Rattle.log_model.specs.declared.found.Found.TheVariants.{Nothing, Part, Whole, Refused}
use Rattle.log_model.specs.Views.{Line}
use Rattle.log_model.specs.Looks.{TakesFrame, TakesNone, IsLook, ends_looks, both_found, Passed, Stopped, Went, Looks}
use Rattle.log_model.specs.Logged.{others_in, IsLineOf, IsWholeLine, IsBehind, WouldTake, IsRefusedLine}
use Rattle.logged_laws.proofs.Lists.{contains-first, contains-later, holds-of, AreApart}
use Rattle.logged_laws.proofs.Lines.{IsLineWith, takes-none, with-nothing, whole-line-of, behind-line-of, whole-after-nothing, whole-after-part, with-frame, behind-piece}

-- ---- what looks find

-- where the first look doesn't end them and the others find something that ends them, that is found;
next-found : (first next : Found) → ends_looks (both_found first next) ≡ true → both_found first next ≡ next
next-found Nothing next ends = refl
next-found Part Nothing ends = absurd (both_ways false refl ends)
next-found Part Part ends = refl
next-found Part (Whole sender stamp frame) ends = refl
next-found Part Refused ends = refl
next-found (Whole sender stamp frame) next ends = refl
next-found Refused next ends = refl

-- else the others don't end them either
next-quiet : (first next : Found) → ends_looks (both_found first next) ≡ false → ends_looks next ≡ false
next-quiet Nothing next quiet = quiet
next-quiet Part Nothing quiet = refl
next-quiet Part Part quiet = refl
next-quiet Part (Whole sender stamp frame) quiet = quiet
next-quiet Part Refused quiet = quiet
next-quiet (Whole sender stamp frame) next quiet = quiet
next-quiet Refused next quiet = quiet

-- what ends the looks behind a first one was found by the others
found-later : (may : ℕ → Bool) (olds news : List Line) (found first next : Found) → ends_looks found ≡ true
    → found ≡ both_found first next → Looks may olds next news → Looks may olds found news
found-later may olds news found first next ends is looks =
    let same : found ≡ next =
    is ∙ next-found first next (subst (λ (f : Found). ends_looks f ≡ true) is ends)
    in subst (λ (f : Found). Looks may olds f news) (sym same) looks

-- ---- looks that find no frame

-- a look that doesn't end them leaves a whole line whole
whole-after-look : (turns : Log) (old new : Line) (found : Found) → ends_looks found ≡ false → IsLook old found new
    → IsWholeLine turns old → IsWholeLine turns new
whole-after-look turns old new Nothing quiet look whole = whole-after-nothing turns old new look whole
whole-after-look turns old new Part quiet look whole = whole-after-part turns old new look whole
whole-after-look turns old new (Whole sender stamp frame) quiet look whole = absurd (both_ways true quiet refl)
whole-after-look turns old new Refused quiet look whole = absurd (both_ways true quiet refl)

-- all lines stay whole
pub whole-after-looks : (turns : Log) (may : ℕ → Bool) (olds news : List Line) (found : Found)
    → ends_looks found ≡ false → Looks may olds found news → AllByRecursion (IsWholeLine turns) olds
    → AllByRecursion (IsWholeLine turns) news
whole-after-looks turns may [] [] found quiet looks whole = tt
whole-after-looks turns may [] (new ∷ news) found quiet looks whole = absurd looks
whole-after-looks turns may (old ∷ olds) [] found quiet looks whole = absurd looks
whole-after-looks turns may (old ∷ olds) (new ∷ news) found quiet (Passed passes same rest) whole = (
  subst (IsWholeLine turns) (sym same) whole.0,
  whole-after-looks turns may olds news found quiet rest whole.1,
)
whole-after-looks turns may (old ∷ olds) (new ∷ news) found quiet (Stopped looked ends look same) whole =
    absurd (both_ways (ends_looks found) quiet ends)
whole-after-looks turns may (old ∷ olds) (new ∷ news) found quiet (Went first next seen goes look rest is) whole = (
  whole-after-look turns old new first goes look whole.0,
  whole-after-looks turns may olds news next
      (next-quiet first next (subst (λ (f : Found). ends_looks f ≡ false) is quiet)) rest whole.1,
)

-- ---- looks that end at what is refused

-- one line is refused, and the others are as they were or whole
pub record HasRefused (turns : Log) (lines : List Line) : Type 0 where
  pub line : IsRefusedLine turns lines
  pub all : AllByRecursion (IsLineOf turns) lines

refused-here : (turns : Log) (old new : Line) (lines : List Line) → TakesNone old new
    → AllByRecursion (IsWholeLine turns) (old ∷ lines) → HasRefused turns (new ∷ lines)
refused-here turns old new lines none whole =
    let behind : IsBehind turns new none.answer = behind-piece turns old new none.answer none.takes whole.0
    in record {
      line = record {
        line = new;
        there = contains-first new lines;
        answer = none.answer;
        refused = none.refused;
        behind = behind;
      };
      all = (
        behind-line-of turns new none.answer behind,
        all-map (λ line is. whole-line-of turns line is) lines whole.1,
      );
    }

refused-later : (turns : Log) (new : Line) (news : List Line) → IsWholeLine turns new → HasRefused turns news
    → HasRefused turns (new ∷ news)
refused-later turns new news whole has =
    record {
      line = record {
        line = has.line.line;
        there = contains-later new news has.line.line has.line.there;
        answer = has.line.answer;
        refused = has.line.refused;
        behind = has.line.behind;
      };
      all = (whole-line-of turns new whole, has.all);
    }

-- after looks that found it
pub refused-after-looks : (turns : Log) (may : ℕ → Bool) (olds news : List Line) → Looks may olds Refused news
    → AllByRecursion (IsWholeLine turns) olds → HasRefused turns news
refused-after-looks turns may [] [] looks whole =
    absurd (both_ways (ends_looks Refused) (ap ends_looks looks) refl)
refused-after-looks turns may [] (new ∷ news) looks whole = absurd looks
refused-after-looks turns may (old ∷ olds) [] looks whole = absurd looks
refused-after-looks turns may (old ∷ olds) (new ∷ news) (Passed passes same rest) whole =
    refused-later turns new news (subst (IsWholeLine turns) (sym same) whole.0)
    (refused-after-looks turns may olds news rest whole.1)
refused-after-looks turns may (old ∷ olds) (new ∷ news) (Stopped looked ends look same) whole =
    subst (λ (ls : List Line). HasRefused turns (new ∷ ls)) (sym same) (refused-here turns old new olds look whole)
refused-after-looks turns may (old ∷ olds) (new ∷ news) (Went first next seen goes look rest is) whole =
    refused-later turns new news (whole-after-look turns old new first goes look whole.0)
    (refused-after-looks turns may olds news (found-later may olds news Refused first next refl is rest) whole.1)

-- ---- looks that end at a frame

-- It came from one of these nodes, from which it may be taken. With it the lines are whole.
pub record HasFrame (turns : Log) (may : ℕ → Bool) (others : List ℕ) (lines : List Line) (sender : ℕ)
    (taken : StampedFrame) : Type 0 where
  pub from : Contains others sender
  pub may_take : may sender ≡ true
  pub with_it : AllByRecursion (IsLineWith turns (Takes sender taken)) lines
  pub would : WouldTake turns lines sender taken
  pub all : AllByRecursion (IsLineOf turns) lines

-- the frame is of none of these lines
with-none : (turns : Log) (sender : ℕ) (taken : StampedFrame) (lines : List Line)
    → AllByRecursion (λ q. sender ≢ q) (others_in lines) → AllByRecursion (IsWholeLine turns) lines
    → AllByRecursion (IsLineWith turns (Takes sender taken)) lines
with-none turns sender taken [] apart whole = tt
with-none turns sender taken (line ∷ lines) apart whole = (
  with-nothing turns (Takes sender taken) line (takes-none sender line.other taken apart.0) whole.0,
  with-none turns sender taken lines apart.1 whole.1,
)

frame-here : (turns : Log) (may : ℕ → Bool) (old new : Line) (lines : List Line) (sender stamp : ℕ) (frame : Frame)
    → may old.other ≡ true → AreApart (others_in (old ∷ lines)) → TakesFrame old sender stamp frame new
    → AllByRecursion (IsWholeLine turns) (old ∷ lines)
    → HasFrame turns may (others_in (old ∷ lines)) (new ∷ lines) sender (stamped stamp frame)
frame-here turns may old new lines sender stamp frame looked apart takes whole =
    let behind : IsBehind turns new (Ok (frame ∷ [])) =
    behind-piece turns old new (Ok (frame ∷ [])) takes.takes whole.0
    in record {
      from = subst (Contains (others_in (old ∷ lines))) (sym takes.other)
          (contains-first old.other (others_in lines));
      may_take = ap may takes.other ∙ looked;
      with_it = (
        with-frame turns old new sender stamp frame takes whole.0,
        with-none turns sender (stamped stamp frame) lines
            (subst (λ (p : ℕ). AllByRecursion (λ q. p ≢ q) (others_in lines)) (sym takes.other) apart.0) whole.1,
      );
      would = record {
        line = new;
        there = contains-first new lines;
        other = ap (λ (l : Line). l.other) takes.takes.is ∙ sym takes.other;
        behind = behind;
        stamped = takes.stamped;
      };
      all = (
        behind-line-of turns new (Ok (frame ∷ [])) behind,
        all-map (λ line is. whole-line-of turns line is) lines whole.1,
      );
    }

frame-later : (turns : Log) (may : ℕ → Bool) (other : ℕ) (others : List ℕ) (new : Line) (news : List Line)
    (sender : ℕ) (taken : StampedFrame) → new.other ≡ other → AllByRecursion (λ q. other ≢ q) others
    → IsWholeLine turns new → HasFrame turns may others news sender taken
    → HasFrame turns may (other ∷ others) (new ∷ news) sender taken
frame-later turns may other others new news sender taken same apart whole has =
    let differs : other ≢ sender = holds-of (λ q. other ≢ q) others sender apart has.from
    in record {
      from = contains-later other others sender has.from;
      may_take = has.may_take;
      with_it = (
        with-nothing turns (Takes sender taken) new
            (takes-none sender new.other taken (λ e. differs (sym same ∙ sym e))) whole,
        has.with_it,
      );
      would = record {
        line = has.would.line;
        there = contains-later new news has.would.line has.would.there;
        other = has.would.other;
        behind = has.would.behind;
        stamped = has.would.stamped;
      };
      all = (whole-line-of turns new whole, has.all);
    }

-- a look that doesn't end them is a look at a line of the same node
same-after-look : (old new : Line) (found : Found) → ends_looks found ≡ false → IsLook old found new
    → new.other ≡ old.other
same-after-look old new Nothing quiet look = ap (λ (l : Line). l.other) look
same-after-look old new Part quiet look = ap (λ (l : Line). l.other) look.is
same-after-look old new (Whole sender stamp frame) quiet look = absurd (both_ways true quiet refl)
same-after-look old new Refused quiet look = absurd (both_ways true quiet refl)

-- after looks that found it
pub frame-after-looks : (turns : Log) (may : ℕ → Bool) (olds news : List Line) (sender stamp : ℕ) (frame : Frame)
    → AreApart (others_in olds) → Looks may olds (Whole sender stamp frame) news
    → AllByRecursion (IsWholeLine turns) olds
    → HasFrame turns may (others_in olds) news sender (stamped stamp frame)
frame-after-looks turns may [] [] sender stamp frame apart looks whole =
    absurd (both_ways (ends_looks (Whole sender stamp frame)) (ap ends_looks looks) refl)
frame-after-looks turns may [] (new ∷ news) sender stamp frame apart looks whole = absurd looks
frame-after-looks turns may (old ∷ olds) [] sender stamp frame apart looks whole = absurd looks
frame-after-looks turns may (old ∷ olds) (new ∷ news) sender stamp frame apart (Passed passes same rest) whole =
    frame-later turns may old.other (others_in olds) new news sender (stamped stamp frame)
    (ap (λ (l : Line). l.other) same) apart.0 (subst (IsWholeLine turns) (sym same) whole.0)
    (frame-after-looks turns may olds news sender stamp frame apart.1 rest whole.1)
frame-after-looks turns may (old ∷ olds) (new ∷ news) sender stamp frame apart (Stopped looked ends look same) whole =
    subst
    (λ (ls : List Line).
    HasFrame turns may (others_in (old ∷ olds)) (new ∷ ls) sender (stamped stamp frame))
    (sym same) (frame-here turns may old new olds sender stamp frame looked apart look whole)
frame-after-looks turns may (old ∷ olds) (new ∷ news) sender stamp frame apart (Went first next seen goes look rest is)
    whole =
    frame-later turns may old.other (others_in olds) new news sender (stamped stamp frame)
    (same-after-look old new first goes look) apart.0 (whole-after-look turns old new first goes look whole.0)
    (frame-after-looks turns may olds news sender stamp frame apart.1
    (found-later may olds news (Whole sender stamp frame) first next refl is rest) whole.1)
