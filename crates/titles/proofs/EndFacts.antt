-- Lines from a place on, and up to one.
use Rattle.std.proofs.Common.{◌≡◌, ◌≤◌, ℕ, Bor, List, [], map, length, drop, take, arith, sym}
use Rattle.std.proofs.lemmas.List.{length-map, drop_all, take_all}

pub no_lines : (count : ℕ) (lines : List (Bor (List ℕ))) → length lines ≤ count → [] ≡ drop count (map (λ (line : Bor (List ℕ)). line.now) lines)
no_lines count lines short =
    let same : length (map (λ (line : Bor (List ℕ)). line.now) lines) ≡ length lines = length-map lines (λ (line : Bor (List ℕ)). line.now) in
    sym (drop_all count (map (λ (line : Bor (List ℕ)). line.now) lines) (omega arith))

pub all_lines : (count : ℕ) (lines : List (Bor (List ℕ))) → length lines ≤ count → map (λ (line : Bor (List ℕ)). line.now) lines ≡ take count (map (λ (line : Bor (List ℕ)). line.now) lines)
all_lines count lines short =
    let same : length (map (λ (line : Bor (List ℕ)). line.now) lines) ≡ length lines = length-map lines (λ (line : Bor (List ℕ)). line.now) in
    sym (take_all count (map (λ (line : Bor (List ℕ)). line.now) lines) (omega arith))
