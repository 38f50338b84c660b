-- The first list of another length is refused, and nothing is written then; with all five lengths right the meaning is that of the sheet.
use Rattle.std.proofs.Common.{◌≡◌, arith}
use Rattle.std.proofs.lemmas.Grind.{common_steps}
use Rattle.std.proofs.lemmas.Result.{err_from_is_err_and}
use Rattle.meanings.specs.Limits.{full}
use Rattle.meanings.specs.ranges.RangeSheet.{read_either}
use Rattle.meanings.specs.ranges.RangeCalls.{read_ranges}
use Rattle.sheet.proofs.RangeReaderScans.{Uneven, minutes_uneven, lows_uneven, highs_uneven, points_uneven, bandwidths_uneven}
use Rattle.sheet.proofs.RangeReaderScans.{even_read, lent_uneven, lent_even}
use Rattle.sheet.proofs.range_reader.read_lent.Goals as goal

pub returns-in_err-minutes : goal.returns-in_err-minutes
returns-in_err-minutes c =
    let h : Uneven c.args.sheet.now c.args.minutes.now c.args.lows.now c.args.highs.now c.args.points.now c.args.bandwidths.now
    = grind (arith, minutes_uneven) in
    let e = err_from_is_err_and c.from_residual.result c.from_residual.ensures.1 in
    grind (arith, common_steps, lent_uneven, h, e.1, e.2)

pub returns-in_err-lows : goal.returns-in_err-lows
returns-in_err-lows c =
    let h : Uneven c.args.sheet.now c.args.minutes.now c.args.lows.now c.args.highs.now c.args.points.now c.args.bandwidths.now
    = grind (arith, lows_uneven) in
    let e = err_from_is_err_and c.from_residual-in_err-lows.result c.from_residual-in_err-lows.ensures.1 in
    grind (arith, common_steps, lent_uneven, h, e.1, e.2)

pub returns-in_err-highs : goal.returns-in_err-highs
returns-in_err-highs c =
    let h : Uneven c.args.sheet.now c.args.minutes.now c.args.lows.now c.args.highs.now c.args.points.now c.args.bandwidths.now
    = grind (arith, highs_uneven) in
    let e = err_from_is_err_and c.from_residual-in_err-highs.result c.from_residual-in_err-highs.ensures.1 in
    grind (arith, common_steps, lent_uneven, h, e.1, e.2)

pub returns-in_err-points : goal.returns-in_err-points
returns-in_err-points c =
    let h : Uneven c.args.sheet.now c.args.minutes.now c.args.lows.now c.args.highs.now c.args.points.now c.args.bandwidths.now
    = grind (arith, points_uneven) in
    let e = err_from_is_err_and c.from_residual-in_err-points.result c.from_residual-in_err-points.ensures.1 in
    grind (arith, common_steps, lent_uneven, h, e.1, e.2)

pub returns-in_err-bandwidths : goal.returns-in_err-bandwidths
returns-in_err-bandwidths c =
    let h : Uneven c.args.sheet.now c.args.minutes.now c.args.lows.now c.args.highs.now c.args.points.now c.args.bandwidths.now
    = grind (arith, bandwidths_uneven) in
    let e = err_from_is_err_and c.from_residual-in_err-bandwidths.result c.from_residual-in_err-bandwidths.ensures.1 in
    grind (arith, common_steps, lent_uneven, h, e.1, e.2)

pub returns : goal.returns
returns c =
    let w = c.read_into.ensures in
    let h : read_ranges full c.args.sheet.now c.args.minutes.now c.args.lows.now c.args.highs.now c.args.points.now c.args.bandwidths.now
    ≡ read_either full c.args.sheet.now = grind (arith, even_read) in
    grind (arith, common_steps, lent_even, h, w)
