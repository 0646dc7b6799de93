-- What the code of a function is given, as its rows take it.
use Rattle.std.specs.Prelude.{◌*◌, ◌<◌, ◌≤◌, ◌^◌, List, All, length}
use Rattle.low_core.specs.declared.sel.SelOp.{SelOp}
use Rattle.low_core.specs.declared.sel.SelBlock.{SelBlock}
use Rattle.frame_rows.specs.Bodies.{spot_of, addresses_of, AreNear, Reaches}
use Rattle.frame_lower.specs.declared.maker.Maker.{Maker}
use Rattle.frame_lower.specs.Rows.{Making}

abbrev pub making : Maker → Making
making m = record {
  homes = spot_of m.homes.now;
  plan = addresses_of m.globals.now m.functions.now;
  words = m.words;
  room = m.room;
  order = m.order.now;
}

-- displacements reach the words of the frame, and no frame is larger than a frame may be
pub record IsFit (m : Maker) : Type 0 where
  pub near : AreNear m.homes.now
  pub words : 8 * m.words ≤ m.room
  pub room : m.room < 2 ^ 30
  pub five : length m.order.now ≤ 5

-- displacements reach the function's own memory as far as operations name it
abbrev pub OpsReach : Maker → List SelOp → Type 0
OpsReach m ops = All (Reaches (8 * m.words)) ops

abbrev pub BlocksReach : Maker → List SelBlock → Type 0
BlocksReach m bs = All (λ (b : SelBlock). OpsReach m b.ops) bs
