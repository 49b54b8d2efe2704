pub mod FetchCall
