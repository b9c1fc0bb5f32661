use Rattle.std.proofs.Common.{List, IfOk, refl, subst, ℕ}
use Rattle.frame_bytes.specs.Streams.{Feeds}
use Rattle.log_model.specs.Views.{Line}
use Rattle.log_model.specs.Looks.{IsLook}
use Rattle.node_lines.proofs.Found.{IsLook-by_found}
use Rattle.node_lines.proofs.line.Line.look.Goals as goal

pub returns-clause-found : goal.returns-clause-found
returns-clause-found g c =
    let old : Line =
    record {
      other = c.self.inside.other;
      out = c.self.inside.out;
      into = c.self.inside.into;
      left = c.self.inside.joiner;
    }
    in
    let new : Line = record old { into = c.take.new.self; left = c.feed-fed.new.self } in
    let FeedsAs : List ℕ → Type 0 = λ bytes. Feeds old.left bytes c.feed-fed.result new.left in
    let Finds : Line → Type 0 = λ line. IfOk c.found_of.result (λ found. IsLook line found new) in
    subst Finds c.self.view_is
    (IsLook-by_found old new c.in-Some.piece c.feed-fed.result c.found_of.result c.found_of.ensures
    (subst FeedsAs c.as_slice.ensures c.feed-fed.ensures) record {
      other = refl;
      out = refl;
      takes = record {
        stream = c.in-Some.ensures.stream;
        taken = c.in-Some.ensures.taken;
        told = c.in-Some.ensures.told;
        looks = c.in-Some.ensures.looks;
      };
    })
