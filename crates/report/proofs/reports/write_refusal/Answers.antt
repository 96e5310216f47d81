use Rattle.std.proofs.Common.{◌≡◌, ◌<◌, take, Some, rules}
use Rattle.report.specs.Reports.{line_of_fault, delivered}
use Rattle.report.specs.Meanings.{RefusalLine, TheOnly}
use Rattle.report.proofs.Readings.{only_refusal, reads_as}
use Rattle.report.proofs.Tellings.{refusal_tells}
use Rattle.report.proofs.reports.write_refusal.Goals as goal

pub returns : goal.returns
returns c =
    let fault = c.args.fault in
    let line = line_of_fault fault in
    let buffer : c.write_line.new.out ≡ (delivered line (Some fault) c.args.out.now).buffer = search rules in
    let report : c.write_line.result ≡ (delivered line (Some fault) c.args.out.now).report = search rules in
    let read : 0 < c.write_line.result.len → TheOnly (RefusalLine fault) (take c.write_line.result.len c.write_line.new.out) =
    reads_as _ _ _ _ _ _ (only_refusal fault (search rules)) buffer report in
    record {
      buffer = buffer;
      report = report;
      reads = read;
      tells = λ some other l. refusal_tells _ _ _ l (read some).holds;
    }
