-- What was frozen thaws.
use Rattle.std.proofs.Common.{length, refl}
use Rattle.image_text.specs.Image.{by_node}
use Rattle.image_text.proofs.Grouped.{stamps-by-node, order-by-node}
use Rattle.image_text.proofs.Frozen.{frozen-is, low-nodes, blocks-few}
use Rattle.world_image.specs.Laws.{FrozenWorldsThaw}

-- the events by node are those of the image, and have the same order
pub frozen-thaws : FrozenWorldsThaw
frozen-thaws bytes script events order w h is run = record {
  script = script;
  events = by_node events;
  is_image = frozen-is bytes script events h.reads h.stand h.within;
  stamps = stamps-by-node events h.stamps;
  order = order;
  is_order =
      order-by-node events order
      (low-nodes (length script.blocks) events (blocks-few bytes script h.reads) h.stand) is;
  run = run;
  last_is = refl;
}
