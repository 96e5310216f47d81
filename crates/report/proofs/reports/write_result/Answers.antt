use Rattle.std.proofs.Common.{◌≡◌, ◌<◌, take, None, arith, rules}
use Rattle.report.specs.Reports.{line_of_result, delivered}
use Rattle.report.specs.Meanings.{ResultLine, TheOnly}
use Rattle.report.proofs.Readings.{only_result, reads_as}
use Rattle.report.proofs.Tellings.{result_tells}
use Rattle.report.proofs.reports.write_result.Goals as goal

pub returns : goal.returns
returns c =
    let a = c.args in
    let line = line_of_result a.numerator a.denominator a.degree a.radius in
    let buffer : c.write_line.new.out ≡ (delivered line None a.out.now).buffer = search rules in
    let report : c.write_line.result ≡ (delivered line None a.out.now).report = search rules in
    let read : 0 < c.write_line.result.len → TheOnly (ResultLine a.numerator a.denominator a.degree a.radius) (take c.write_line.result.len c.write_line.new.out) =
    reads_as _ _ _ _ _ _ (only_result _ _ _ _ c.ranges.numerator.sfits (omega arith) (omega arith) c.ranges.radius.sfits) buffer report in
    record {
      buffer = buffer;
      report = report;
      reads = read;
      tells = λ some a b d e l. result_tells _ _ _ _ _ _ _ _ _ l (read some).holds;
    }
