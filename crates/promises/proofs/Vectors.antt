-- W1 to W10 hold: one table, one statement, which antt computes from the definition of a call.
use mathlib.Core.Path.{◌≡◌, refl}
use mathlib.Core.Bool.{true}
use Rattle.laws.specs.Parts.{stretch, pasted, written, filled}
use Rattle.numbers.specs.Numbers.{ok_width, width_of, be_from, be_of, number_at, big_endian}
use Rattle.utf8.specs.Utf8.{chars, begins_in, owed_in, checked_from, checked_of}
use Rattle.header.specs.Header.{header_end, data_end, data_field, header_order, header_refusal, conf_of, fields_of, header_of}
use Rattle.packet_info.specs.Routing.{directive_order, directive_refusal, ack_refusal, packet_order, packet_refusal, route_of, packet_of}
use Rattle.bodies.specs.Eof.{eof_order, eof_refusal, fields_of as eof_fields_of, eof_of}
use Rattle.bodies.specs.FileData.{data_at, malformed, fields_of as filedata_fields_of, file_data_of, segment_of}
use Rattle.bodies.specs.Metadata.{name_at, name_whole, malformed as metadata_malformed, fields_of as metadata_fields_of, metadata_of}
use Rattle.options.specs.Options.{option_whole, tlv_at, walk_from, options_of}
use Rattle.finished.specs.Finished.{id_bytes, header_bytes, location, body_bytes, finished_bytes, finished_of}
use Rattle.filestore.specs.Checksum.{total, checksum_of}
use Rattle.filestore.specs.File.{segment_fits, segment_into, length_after, with_segment, stored_of}
use Rattle.config.specs.Config.{fits_width, is_handler, all_handlers, handler_of, default_handlers, find_in, known_in, repeats_in, config_broken}
use Rattle.steps.specs.Busy.{waited_of, ended_of, busy_of}
use Rattle.steps.specs.Completion.{discards, finish_of, finished_note, kept_length, completion_of}
use Rattle.steps.specs.Eof.{failed_of, eof_verified, eof_handled_of}
use Rattle.transfer.specs.Fault.{handled, declared_of}
use Rattle.transfer.specs.Segment.{progress_passes, segment_order, segment_refusal, segment_by, segmented_of}
use Rattle.transfer.specs.Transfer.{idle_after, started_of}
use Rattle.transfer.specs.Verify.{unsupported_of, verified_of}
use Rattle.steps.specs.Waiting.{limit_of, check_of}
use Rattle.state.specs.State.{no_name, name_of, no_id, fresh_of, settled, begun}
use Rattle.state.specs.Unfit.{conf_fits, record_fits, count_fits, names_fit, count_broken, state_broken, store_unfit, unfit_order, unfit_refusal}
use Rattle.dest.specs.Call.{faults_of, remote_of, ran_of, busy_call, refused_of, after_insert, file_data_call, eof_call, start_called, started_call, entry_order, entry_refusal, insert_call, poll_call, call_of}
use Rattle.inserting.specs.Insert.{other, place_order, body_order, file_data_order, eof_call_order, segment_placed, segment_taken, body_refusal, file_data_placed, eof_call_refusal, eof_taken, eof_inserted}
use Rattle.inserting.specs.Metadata.{names_order, rest_order, rest_refusal}
use Rattle.dest.specs.Metadata.{metadata_order, metadata_refusal, start_of, begun_of, metadata_note}
use Rattle.promises.specs.Vectors.{config_of, ran_of as row_of, same, same_lists, holds, all_hold, table}

pub w1_to_w10 : all_hold table ≡ true
unfolding all_hold holds table config_of row_of same same_lists stretch pasted written filled ok_width width_of be_from be_of number_at big_endian chars begins_in owed_in checked_from checked_of header_end data_end data_field header_order header_refusal conf_of fields_of header_of directive_order directive_refusal ack_refusal packet_order packet_refusal route_of packet_of eof_order eof_refusal eof_fields_of eof_of data_at malformed filedata_fields_of file_data_of segment_of name_at name_whole metadata_malformed metadata_fields_of metadata_of option_whole tlv_at walk_from options_of id_bytes header_bytes location body_bytes finished_bytes finished_of total checksum_of segment_fits segment_into length_after with_segment stored_of fits_width is_handler all_handlers handler_of default_handlers find_in known_in repeats_in config_broken waited_of ended_of busy_of discards finish_of finished_note kept_length completion_of failed_of eof_verified eof_handled_of handled declared_of progress_passes segment_order segment_refusal segment_by segmented_of idle_after started_of unsupported_of verified_of limit_of check_of no_name name_of no_id fresh_of settled begun conf_fits record_fits count_fits names_fit count_broken state_broken store_unfit unfit_order unfit_refusal faults_of remote_of ran_of busy_call refused_of after_insert file_data_call eof_call start_called started_call entry_order entry_refusal insert_call poll_call call_of other place_order body_order file_data_order eof_call_order segment_placed segment_taken body_refusal file_data_placed eof_call_refusal eof_taken eof_inserted names_order rest_order rest_refusal metadata_order metadata_refusal start_of begun_of metadata_note
w1_to_w10 = refl
