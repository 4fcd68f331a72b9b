-- Evaporation in the arrays' words (01, step 4).
use Rattle.std.specs.Prelude.{List, ◌≡◌, ℕ, ◌+◌, ◌-◌, ◌≤◌, ◌<◌, length, get_or}
use Rattle.places.specs.Board.{storage_place, month_at, storage_at}
use Rattle.rules.specs.Month.{evaporation}
use Rattle.records.specs.Records.{content_at, reservoir_count, reservoir_of}

-- a storage x from pair k up to the next, given their storages
pub record OnLine (rs : List ℕ) (v k low high x : ℕ) : Type 0 where
  pub exists : v < reservoir_count rs
  pub has_next : k < 3
  pub low_is : low ≡ content_at rs v k
  pub high_is : high ≡ content_at rs v (k + 1)
  pub reached : low ≤ x
  pub not_next : x < high
  pub in_word : high < 4294967296

-- what reservoir v of storage x loses in month m
abbrev pub loss_in : List ℕ → ℕ → ℕ → ℕ → ℕ
loss_in rs m v x = evaporation m (reservoir_of rs v) x

pub record CanEvaporate (rs : List ℕ) (m : ℕ) (losses : List ℕ) : Type 0 where
  pub few : reservoir_count rs ≤ 8
  pub in-year : m < 12
  pub places : reservoir_count rs ≤ length losses

-- the first k reservoirs have lost theirs, and the list rp tells it from `at` on: a report, or its part of the losses, which tells it from 0 on
pub record Lost (rs : List ℕ) (m k : ℕ) (bd rp : List ℕ) (at : ℕ) (bd' rp' : List ℕ) : Type 0 where
  pub storages : (v : ℕ) → v < k → storage_at bd' v ≡ storage_at bd v - loss_in rs m v (storage_at bd v)
  pub told : (v : ℕ) → v < k → get_or rp' (at + v) 0 ≡ loss_in rs m v (storage_at bd v)
  pub kept_front : month_at bd' ≡ month_at bd
  pub kept : (p : ℕ) → storage_place k ≤ p → get_or bd' p 0 ≡ get_or bd p 0
  pub report_front : (p : ℕ) → p < at → get_or rp' p 0 ≡ get_or rp p 0
  pub report_kept : (p : ℕ) → at + k ≤ p → get_or rp' p 0 ≡ get_or rp p 0
  pub size : length bd' ≡ length bd
  pub report_size : length rp' ≡ length rp
