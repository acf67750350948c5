-- Decoding the bytes of a chart gives the chart back.
use mathlib.Core.Path.{◌≡◌, refl, ap₂, ◌∙◌}
use mathlib.Core.List.{List, [], ◌∷◌, ◌++◌, map, flat_map, append_assoc, append-nil}
use Prim.Native.Nat.{ℕ, suc, ◌+◌, ◌*◌, ◌-◌, ◌≤◌, ◌<◌}
use native.Mathlib.Nat.{add-zero}
use native.Mathlib.Omega.{arith}
use lib.ListN.{length, get_or, length-append}
use lib.Seq.{get_or-append-add}
use Rattle.lists.specs.Lists.{All, all_cons, all_nil}
use Rattle.codec.specs.Numbers.{bytes16, get16}
use Rattle.codec.proofs.Numbers.{get16_after, get16_back}
use Rattle.chart.specs.Chart.{Stroke, upright, level, Chart, bars_of}
use Rattle.chart.specs.Bytes.{bar_bytes, stroke_bytes, bytes_of}
use Rattle.chart.proofs.Sizes.{bars_count, bars_size}
use Rattle.chart_reader.proofs.Same.{SameNumbers}
use Rattle.chart.proofs.Decoded.{bar_in}
use Rattle.chart.specs.Decode.{count_in, stroke_size, shaped, stroke_at, places, behind, chart_in}
use Rattle.chart_reader.specs.Formed.{Formed}

-- k strokes of the bytes from a place on, and where they end
pub record Spelled (s : List ℕ) (at k : ℕ) (ss : List Stroke) (end : ℕ) : Type 0 where
  pub strokes : map (stroke_at s) (places s at k) ≡ ss
  pub bits : All (λ at. get_or s at 0 < 2) (places s at k)
  pub ends : behind s at k ≡ end

spelled_none : (s : List ℕ) (at : ℕ) → Spelled s at 0 [] at
unfolding places behind
spelled_none s at = record { strokes = refl; bits = all_nil; ends = refl }

spelled_next : {s : List ℕ} {at k end : ℕ} {t : Stroke} {ss : List Stroke} → get_or s at 0 < 2 → stroke_at s at ≡ t → Spelled s (at + stroke_size (get_or s at 0)) k ss end → Spelled s at (suc k) (t ∷ ss) end
unfolding places behind
spelled_next h e S = record { strokes = ap₂ ◌∷◌ e S.strokes; bits = all_cons h S.bits; ends = S.ends }

-- the stroke behind a prefix
pub record Here (s : List ℕ) (at : ℕ) (t : Stroke) : Type 0 where
  pub bit : get_or s at 0 < 2
  pub stroke : stroke_at s at ≡ t
  pub size : stroke_size (get_or s at 0) ≡ length (stroke_bytes t)

here_at : (t : Stroke) (xs ys : List ℕ) → Here (xs ++ (stroke_bytes t ++ ys)) (length xs) t
unfolding stroke_bytes shaped
here_at (upright e j) xs ys =
    let zs : List ℕ = stroke_bytes (upright e j) ++ ys in
    let m : get_or (xs ++ zs) (length xs) 0 ≡ 1 = rw (add-zero (length xs)) at (get_or-append-add xs zs 0 0) in
    let a : get16 (xs ++ zs) (length xs + 1) ≡ e.0 = get16_after xs zs 1 ∙ get16_back e.0 [] in
    let b : get16 (xs ++ zs) (length xs + 3) ≡ e.1 = get16_after xs zs 3 ∙ get16_back e.1 [] in
    let k : get16 (xs ++ zs) (length xs + 5) ≡ j = get16_after xs zs 5 ∙ get16_back j [] in
    record { bit = rw m (omega arith); stroke = rw (m, a, b, k); size = rw m }
here_at (level e) xs ys =
    let zs : List ℕ = stroke_bytes (level e) ++ ys in
    let m : get_or (xs ++ zs) (length xs) 0 ≡ 0 = rw (add-zero (length xs)) at (get_or-append-add xs zs 0 0) in
    let a : get16 (xs ++ zs) (length xs + 1) ≡ e.0 = get16_after xs zs 1 ∙ get16_back e.0 [] in
    let b : get16 (xs ++ zs) (length xs + 3) ≡ e.1 = get16_after xs zs 3 ∙ get16_back e.1 [] in
    record { bit = rw m (omega arith); stroke = rw (m, a, b); size = rw m }

spelled : (ss : List Stroke) (xs : List ℕ) → Spelled (xs ++ flat_map stroke_bytes ss) (length xs) (length ss) ss (length (xs ++ flat_map stroke_bytes ss))
unfolding flat_map
spelled [] xs = rw (length-append xs [], add-zero (length xs)) (spelled_none (xs ++ []) (length xs))
spelled (t ∷ ss) xs =
    let H = here_at t xs (flat_map stroke_bytes ss) in
    spelled_next H.bit H.stroke (rw (H.size, ← length-append xs (stroke_bytes t), ← append_assoc xs (stroke_bytes t) (flat_map stroke_bytes ss)) (spelled ss (xs ++ stroke_bytes t)))

-- the whole chart
module _ (c : Chart) where
  -- the bytes before the strokes
  front : List ℕ
  front = bytes16 c.rows ++ (bytes16 c.columns ++ (bytes16 c.n ++ flat_map bar_bytes (bars_of c)))

  front_length : length front ≡ 6 + 6 * c.n
  unfolding front
  front_length = omega (arith, bars_size (bars_of c), bars_count c)

  pub decoded_count : count_in (bytes_of c) ≡ c.n
  unfolding bytes_of
  decoded_count = get16_back c.n []

  decoded_strokes : length c.strokes + 3 ≡ 2 * c.n → Spelled (bytes_of c) (6 + 6 * c.n) (2 * c.n - 3) c.strokes (length (bytes_of c))
  unfolding bytes_of front
  decoded_strokes h =
      let k : length c.strokes ≡ 2 * c.n - 3 = omega arith in
      rw (← front_length, ← k) (spelled c.strokes front)

  decoded_bar : (x : ℕ) → x < c.n → (chart_in (bytes_of c)).bar x ≡ c.bar x
  decoded_bar x h = rw (append-nil (bytes_of c)) at (bar_in c [] x h)

  pub decoded : length c.strokes + 3 ≡ 2 * c.n → SameNumbers (chart_in (bytes_of c)) c
  unfolding bytes_of
  decoded h = record {
    rows = get16_back c.rows [];
    columns = get16_back c.columns [];
    corners = decoded_count;
    bars = decoded_bar;
    strokes = rw decoded_count (decoded_strokes h).strokes;
  }

  decoded_head : 6 ≤ length (bytes_of c)
  unfolding bytes_of
  decoded_head = omega arith

  pub decoded_formed : 3 ≤ c.n → c.n ≤ 1024 → length c.strokes + 3 ≡ 2 * c.n → Formed (bytes_of c)
  decoded_formed a b h =
      let S = decoded_strokes h in
      record { head = decoded_head; least = rw decoded_count a; most = rw decoded_count b; bits = rw decoded_count S.bits; exact = rw decoded_count S.ends }
