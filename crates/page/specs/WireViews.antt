-- What the code's rows, panels and wires stand for.
use Rattle.std.specs.Prelude.{◌≡◌, ◌+◌, ◌*◌, ◌-◌, ◌<◌, ◌≤◌, ◌⊎◌, ℕ, List, Some, if◌then◌else◌}
use Rattle.std.specs.List.{AllPairs, slice_get}
use Rattle.page.specs.declared.lanes.ClassLane.{ClassLane}
use Rattle.page.specs.declared.lanes.Placed.{Placed}
use Rattle.page.specs.declared.pictures.Target.{Target}
use Rattle.page.specs.declared.wires.Lanes.{Lanes}
use Rattle.page.specs.declared.wires.Spread.{Spread}
use Rattle.page.specs.declared.wires.Ways.{Ways}
use Rattle.page.specs.declared.wires.Wire.{Wire}
use Rattle.page.specs.Layout.{KeepApart, Route}

-- a row leads to a panel
abbrev pub LeadsTo : List Target → ℕ → ℕ → Type 0
LeadsTo nets row panel = slice_get nets row ≡ Some (Target.Panel panel)

-- each row at a height leads to a panel
abbrev pub ArrivesFree : List Target → List ℕ → ℕ → ℕ → Type 0
ArrivesFree nets rows panel height = (row : ℕ) → slice_get rows row ≡ Some height → LeadsTo nets row panel

-- a row stands at a height
abbrev pub StandsAt : List ℕ → ℕ → Type 0
StandsAt rows height = (row : ℕ) × (slice_get rows row ≡ Some height)

-- at a place among the panels stands this one
abbrev pub StandsAmong : List Placed → ℕ → ℕ → Type 0
StandsAmong placed place panel = (p : Placed) × (slice_get placed place ≡ Some p) × (p.panel ≡ panel)

-- at the height at which a wire arrives at a panel there is no row of another one
abbrev pub ArriveFree : List Target → List ℕ → List Placed → List ℕ → Type 0
ArriveFree nets rows placed arrivals =
    (place : ℕ) (p : Placed) (height : ℕ) → slice_get placed place ≡ Some p → slice_get arrivals place ≡ Some height → ArrivesFree nets rows p.panel height

-- what a row leads to, and its height
abbrev pub IsRow : Ways → ℕ → Target → ℕ → Type 0
IsRow ways row net height = (slice_get ways.nets.now row ≡ Some net) × (slice_get ways.rows.now.items.items row ≡ Some height)

-- a lane among those of the classes is that of this one
abbrev pub IsAmong : List ClassLane → ClassLane → ℕ → Type 0
IsAmong classes c class = (place : ℕ) × (slice_get classes place ≡ Some c) × (c.class ≡ class)

-- which of the lanes, from the left, a class's lane or a panel's is, and where it stands
abbrev pub pair_lane : Lanes → ℕ → ℕ
pair_lane l lane = l.pairs.count - 1 - lane

abbrev pub panel_lane : Lanes → ℕ → ℕ
panel_lane l place = if l.is_wide then l.panels.count - 1 - place else place

abbrev pub lane_at : Spread → ℕ → ℕ
lane_at s lane = s.start + s.step * lane

abbrev pub route_of : Wire → Route
route_of w = record { x0 = w.from.x; y0 = w.from.y; lane = w.lane; x1 = w.to.x; y1 = w.to.y }

-- a wire from a row to its panel
pub record IsPanelWire (ways : Ways) (w : Wire) : Type 0 where
  pub row : ℕ
  pub place : ℕ
  pub placed : Placed
  pub net : slice_get ways.nets.now row ≡ Some w.net
  pub from : slice_get ways.rows.now.items.items row ≡ Some w.from.y
  pub at : slice_get ways.placed.now place ≡ Some placed
  pub is : w.net ≡ Target.Panel placed.panel
  pub to : slice_get ways.arrivals.now.items.items place ≡ Some w.to.y
  pub lane : w.lane ≡ lane_at ways.lanes.now.panels (panel_lane ways.lanes.now place)
  pub few : place < ways.lanes.now.panels.count
  pub begin : w.from.x ≡ ways.lanes.now.right
  pub end : w.to.x ≡ ways.lanes.now.arrive

-- a wire from the first row of a class to another
pub record IsPairWire (ways : Ways) (w : Wire) : Type 0 where
  pub row : ℕ
  pub place : ℕ
  pub class : ClassLane
  pub at : slice_get ways.classes.now.items.items place ≡ Some class
  pub is : w.net ≡ Target.Pair class.class
  pub net : slice_get ways.nets.now row ≡ Some w.net
  pub first : slice_get ways.nets.now class.first ≡ Some w.net
  pub after : class.first < row
  pub within : row ≤ class.last
  pub from : slice_get ways.rows.now.items.items class.first ≡ Some w.from.y
  pub to : slice_get ways.rows.now.items.items row ≡ Some w.to.y
  pub lane : w.lane ≡ lane_at ways.lanes.now.pairs (pair_lane ways.lanes.now class.lane)
  pub few : class.lane < ways.lanes.now.pairs.count
  pub begin : w.from.x ≡ ways.lanes.now.left
  pub end : w.to.x ≡ ways.lanes.now.left

abbrev pub IsWire : Ways → Wire → Type 0
IsWire ways w = IsPanelWire ways w ⊎ IsPairWire ways w

-- no two wires of different nets have a stretch of a line in common
abbrev pub KeepAllApart : List Wire → Type 0
KeepAllApart wires = AllPairs (λ v w. (v.net ≡ w.net → ⊥) → KeepApart (route_of v) (route_of w)) wires
