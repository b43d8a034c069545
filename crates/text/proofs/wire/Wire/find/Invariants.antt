-- `find`: a search that has come down to a place finds what the whole search finds.
use Rattle.std.proofs.Common.{◌≡◌, ◌≤◌}
use Rattle.text.specs.Memory.{place_below, last_place}
use Rattle.text.proofs.wire.Wire.find.Given as goal

abbrev pub invariant-loop-i : goal.invariant-loop-i
invariant-loop-i l = (l.i ≤ 65536) × (place_below l.self.bytes.now l.wanted l.i ≡ place_below l.self.bytes.now l.wanted (last_place l.fn.m.kept l.wanted))
