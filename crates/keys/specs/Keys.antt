-- How the code holds diagonals: an edge (a,b) is the number a * 1,024 + b. The order of the numbers is the order of the edges.
use Rattle.std.specs.Prelude.{List, map, ℕ, ◌+◌, ◌*◌, ◌/◌, ◌%◌}
use Rattle.lists.specs.Lists.{choose}
use Rattle.polygon.specs.Angles.{Angle, in_range?}
use Rattle.polygon.specs.Polygon.{Edge, ◌—◌}

abbrev pub key_of : Edge → ℕ
key_of e = e.0 * 1024 + e.1

abbrev pub edge_of : ℕ → Edge
edge_of k = (k / 1024) — (k % 1024)

abbrev pub edges_of : List ℕ → List Edge
edges_of ks = map edge_of ks

-- A bend, a diagonal with its angle beside it, is one number too: twenty bits for the key, and twelve for the angle plus 1,800. So bends ascend as their diagonals do.
abbrev pub key_in : ℕ → ℕ
key_in b = b / 4096

abbrev pub keys_in : List ℕ → List ℕ
keys_in bs = map key_in bs

-- the bend of a key with the angle 0
abbrev pub flat_bend : ℕ → ℕ
flat_bend k = k * 4096 + 1800

-- its angle, in two's complement
abbrev pub angle_in : ℕ → Angle
angle_in b = (b % 4096 + 63736) % 65536

abbrev pub angles_in : List ℕ → List Angle
angles_in bs = map angle_in bs

-- the twelve bits of an angle, 0 to 3,600; 4,095 for one that is out of range
unfoldable pub code_of : Angle → ℕ
code_of a = choose (in_range? a) ((a + 1800) % 65536) 4095
