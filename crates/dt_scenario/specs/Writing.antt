-- How lines are logged that are told one after another, until a put fails.
use Rattle.std.specs.Prelude.{ℕ, ◌≡◌, Bool, true, false, List}
use Rattle.dt_edges.specs.Sinks.{SinkSight, Takes, TakesPart}
use Rattle.dt_scenario.specs.declared.logs.Log.{Log}

-- a text was put: whole, or a first part of it, where a put failed
abbrev pub WroteBy : Bool → List ℕ → SinkSight → SinkSight → Type 0
WroteBy false text before after = Takes text before after
WroteBy true text before after = TakesPart text before after

-- The text of a line is put, unless a put failed before.
pub record Writes {K : Type 0} (sight : K → SinkSight) (text : List ℕ) (s t : Log K) : Type 0 where
  pub same : t.out.ghost_name ≡ s.out.ghost_name
  pub put : s.failed ≡ false → WroteBy t.failed text (sight s.out.now) (sight t.out.now)
  pub still : s.failed ≡ true → (t.failed ≡ true) × (sight t.out.now ≡ sight s.out.now)
